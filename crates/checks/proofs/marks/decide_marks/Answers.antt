-- Where no mark has a fault and none repeats an earlier one no check finds anything; else the first marks found decide in the order.
use Rattle.std.proofs.Common.{sym, ◌∙◌}
use Rattle.dayfile.specs.Records.{marks_in}
use Rattle.checks.proofs.Deciding.{marks_decided, marks_clear, neither}
use Rattle.checks.proofs.marks.decide_marks.Goals as goal

pub returns-then-bad-is_some : goal.returns-then-bad-is_some
returns-then-bad-is_some c =
    let ms = marks_in c.args.marks.bytes.now in
    (marks_decided ms _ c.repeated-repeated.ensures c.decide.ensures, c.some_fault-bad.ensures.1)

pub returns : goal.returns
returns c =
    let ms = marks_in c.args.marks.bytes.now in
    let l = c.some_fault-bad.ensures in
    let n = neither c.is_some.ensures c.if-bad-is_some.false in
    (sym (marks_clear ms (sym l.0 ∙ n.0) _ (sym c.repeated-repeated.ensures ∙ n.1)), l.1)
