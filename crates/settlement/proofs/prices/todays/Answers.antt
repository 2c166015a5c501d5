use Rattle.std.proofs.Common.{◌<◌, length, ap, arith}
use Rattle.numbers.proofs.Filled.{filled_none, filled_more}
use Rattle.dayfile.specs.declared.records.Mark.{Mark}
use Rattle.settlement.proofs.prices.todays.Goals as goal

pub loop-m-init : goal.loop-m-init
loop-m-init c = filled_none

pub loop-m-preserved : goal.loop-m-preserved
loop-m-preserved c =
    let few : c.loop-m.m < length c.loop-m.price = omega (arith, c.args.marks.few) in
    filled_more few (ap (λ (m : Mark). m.today) c.mark_at.ensures) c.loop-m.invariant
