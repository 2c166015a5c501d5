-- By the number of marks: above the limit check 2 refuses before all others, and within it the checks over marks decide.
use Rattle.std.proofs.Common.{length, ◌∙◌, arith, le-ltb, lt-ltb}
use Rattle.numbers.proofs.Checks.{one_decides, one_passes, decision_all}
use Rattle.dayfile.specs.Limits.{file_limits}
use Rattle.dayfile.specs.Records.{marks_in}
use Rattle.checks.specs.Marks.{mark_checks, too_many_marks}
use Rattle.checks.proofs.Deciding.{above_limits}
use Rattle.checks.proofs.marks.check_marks.Goals as goal

pub returns-then-mark_count-gt-MAX_MARKS : goal.returns-then-mark_count-gt-MAX_MARKS
returns-then-mark_count-gt-MAX_MARKS c =
    let ms = marks_in c.args.marks.now in
    above_limits c.from.ensures ∙ one_decides (too_many_marks file_limits ms) (mark_checks ms) (lt-ltb file_limits.marks (length ms) (omega (arith, c.if-mark_count-gt-MAX_MARKS.true, c.mark_count.ensures)))

pub invariant_of-decide_marks : goal.invariant_of-decide_marks
invariant_of-decide_marks c = record { few = omega (arith, c.mark_count.ensures, c.if-mark_count-gt-MAX_MARKS.false) }

pub returns : goal.returns
returns c =
    let ms = marks_in c.args.marks.now in
    one_passes (too_many_marks file_limits ms) (mark_checks ms) (le-ltb file_limits.marks (length ms) (omega (arith, c.if-mark_count-gt-MAX_MARKS.false, c.mark_count.ensures)))
    (c.decide_marks.ensures.0 ∙ decision_all (mark_checks ms))
