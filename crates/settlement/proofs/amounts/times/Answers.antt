-- Lots and a change in value are bounded, so that their product fits an i64.
use Rattle.std.proofs.Common.{arith}
use Rattle.numbers.proofs.Signed.{back, back_small}
use Rattle.settlement.proofs.Sizes.{product_small}
use Rattle.settlement.proofs.amounts.times.Goals as goal

pub returns : goal.returns
returns c =
    let a = c.args in
    rw (back a.lots c.ranges.lots.sfits, back a.change c.ranges.change.sfits)
    (back_small _ (omega (arith, product_small a.lots a.change c.requires.0 c.requires.1)))
