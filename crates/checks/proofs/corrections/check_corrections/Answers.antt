-- By the numbers of marks and corrections: above a limit check 2 refuses before all others, with a resent count of 0;
-- within both the checks over corrections decide, by the ticks that the pass over the marks writes.
use Rattle.std.proofs.Common.{◌∙◌}
use Rattle.numbers.proofs.Checks.{decision_all}
use Rattle.dayfile.specs.Limits.{file_limits}
use Rattle.dayfile.specs.Records.{marks_in, corrections_in}
use Rattle.checks.specs.Corrections.{correction_checks}
use Rattle.checks.proofs.Deciding.{above_limits, too_many_corrections_lem, not_many_corrections}
use Rattle.checks.proofs.corrections.check_corrections.Goals as goal

pub returns-then-mark_count-correction_count : goal.returns-then-mark_count-correction_count
returns-then-mark_count-correction_count c =
    let a = c.args in
    rw (above_limits c.from.ensures)
    (too_many_corrections_lem file_limits (marks_in a.marks.now) (corrections_in a.corrections.now)
    (rw (← c.mark_count.ensures, ← c.correction_count.ensures) c.if-mark_count-correction_count.true))

pub returns : goal.returns
returns c =
    let a = c.args in
    not_many_corrections file_limits (marks_in a.marks.now) (corrections_in a.corrections.now)
    (rw (← c.mark_count.ensures, ← c.correction_count.ensures) c.if-mark_count-correction_count.false)
    (c.decide_corrections.ensures.0 ∙ decision_all (correction_checks (marks_in a.marks.now) (corrections_in a.corrections.now)))
    c.decide_corrections.ensures.1
