use Rattle.std.proofs.Common.{◌≡◌, ◌<◌, length, get_or, ap, ◌∙◌, arith, w64, to_z, of_z}
use Rattle.products.specs.declared.table.Currency.TheVariants.{Aud}
use Rattle.numbers.specs.Integers.{entry_of}
use Rattle.dayfile.specs.Records.{positions_in}
use Rattle.dayfile.specs.declared.records.Position.{Position}
use Rattle.settlement.specs.Settling.{amount_of}
use Rattle.numbers.proofs.Signed.{back}
use Rattle.numbers.proofs.Tables.{filled}
use Rattle.settlement.proofs.Sizes.{amount_gives, amount-small, small_as}
use Rattle.settlement.proofs.Shares.{summed_more, summed_in}
use Rattle.settlement.proofs.amounts.pay_by.Goals as goal

pub add-s-requires : goal.add-s-requires
add-s-requires c =
    let at = c.loop-i in
    let q = c.position_count-count.ensures in
    let g = c.requires.0 in
    let h : at.i < length (positions_in c.args.positions.now) = omega (arith, q, c.loop-i-test.true) in
    let paid : to_z w64 (of_z w64 c.times-x.result) ≡ amount_of (positions_in c.args.positions.now) (entry_of c.args.a.now) at.i =
    back c.times-x.result c.times-x.type_inv ∙ amount_gives _ _ g.0 g.1 _ h c.position_at-p.ensures c.times-x.ensures in
    summed_in _ _ _ g.0 g.1 (omega arith) at.invariant.1 (small_as paid (amount-small _ _ g.0 g.1 at.i h))

pub loop-i-preserved : goal.loop-i-preserved
loop-i-preserved c =
    let at = c.loop-i in
    let q = c.position_count-count.ensures in
    let g = c.requires.0 in
    let ps = positions_in c.args.positions.now in
    let h : at.i < length ps = omega (arith, q, c.loop-i-test.true) in
    let paid : to_z w64 (of_z w64 c.times-x.result) ≡ amount_of ps (entry_of c.args.a.now) at.i =
    back c.times-x.result c.times-x.type_inv ∙ amount_gives _ _ g.0 g.1 _ h c.position_at-p.ensures c.times-x.ensures in
    let m = ap (λ (p : Position). get_or c.args.currencies.now p.mark Aud) c.position_at-p.ensures in (
      rw at.invariant.0 (filled (amount_of ps (entry_of c.args.a.now)) c.args.amounts.now at.i (omega (arith, c.requires.1)) paid),
      summed_more ps c.args.a.now c.args.currencies.now m paid c.add-s.ensures at.invariant.1,
    )
