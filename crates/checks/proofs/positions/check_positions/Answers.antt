-- By the numbers of marks and positions: above a limit check 2 refuses before all others, and within both the checks over positions decide.
use Rattle.std.proofs.Common.{◌∙◌}
use Rattle.numbers.proofs.Checks.{one_decides, one_passes, decision_all}
use Rattle.dayfile.specs.Limits.{file_limits}
use Rattle.dayfile.specs.Records.{marks_in, positions_in}
use Rattle.checks.specs.Positions.{position_checks, too_many_positions}
use Rattle.checks.proofs.Deciding.{above_limits}
use Rattle.checks.proofs.positions.check_positions.Goals as goal

pub returns-then-mark_count-position_count : goal.returns-then-mark_count-position_count
returns-then-mark_count-position_count c =
    let a = c.args in
    let ms = marks_in a.marks.now in
    let ps = positions_in a.positions.now in
    above_limits c.from.ensures ∙ one_decides (too_many_positions file_limits ms ps) (position_checks ms ps) (rw (← c.mark_count.ensures, ← c.position_count.ensures) c.if-mark_count-position_count.true)

pub returns : goal.returns
returns c =
    let a = c.args in
    let ms = marks_in a.marks.now in
    let ps = positions_in a.positions.now in
    one_passes (too_many_positions file_limits ms ps) (position_checks ms ps)
    (rw (← c.mark_count.ensures, ← c.position_count.ensures) c.if-mark_count-position_count.false)
    (c.decide_positions.ensures ∙ decision_all (position_checks ms ps))
