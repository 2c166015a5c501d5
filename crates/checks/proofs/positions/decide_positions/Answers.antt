-- Where no position has a fault and none repeats an earlier one no check finds anything; else the first positions found decide in the order.
use Rattle.std.proofs.Common.{sym, ◌∙◌}
use Rattle.dayfile.specs.Records.{marks_in, positions_in}
use Rattle.checks.proofs.Deciding.{positions_decided, positions_clear, neither}
use Rattle.checks.proofs.positions.decide_positions.Goals as goal

pub returns-then-bad-is_some : goal.returns-then-bad-is_some
returns-then-bad-is_some c =
    let a = c.args in
    positions_decided (marks_in a.marks.bytes.now) (positions_in a.positions.now) _ c.repeated-repeated.ensures c.decide.ensures

pub returns : goal.returns
returns c =
    let a = c.args in
    let n = neither c.is_some.ensures c.if-bad-is_some.false in
    sym (positions_clear (marks_in a.marks.bytes.now) (positions_in a.positions.now) (sym c.some_fault-bad.ensures ∙ n.0) _
    (sym c.repeated-repeated.ensures ∙ n.1))
