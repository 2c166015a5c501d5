use Rattle.std.proofs.Common.{eqb, not, refl, ◌∙◌, arith}
use Rattle.pairs.proofs.Spots.{spot_below, places_as}
use Rattle.pairs.proofs.Sifted.{sifting_start, held_few, tried, sifted_found, sifted_all, ahead, listed-ahead}
use Rattle.pairs.proofs.sift.sift_by_one.Goals as goal

pub loop-t-init : goal.loop-t-init
loop-t-init g c = (refl, refl, sifting_start c.requires.3, λ u h. refl)

pub nth-i-requires : goal.nth-i-requires
nth-i-requires g c = omega (arith, c.loop-t-test.true, c.loop-t.invariant.0)

pub try_both-requires : goal.try_both-requires
try_both-requires g c =
    let p = c.requires in
    let l = c.loop-t in
    let h = c.loop-t-test.true in
    let is = c.nth-i.ensures ∙ listed-ahead (not (eqb g.row.LISTED 0)) l.list c.args.list.now l.t l.invariant.3 in (
      omega (arith, p.0.below _ h, is),
      held_few l.invariant.2 p.0 h,
      places_as l.invariant.1 p.2,
      omega (arith, h, l.invariant.0, l.invariant.2.fewer),
      omega (arith, c.args.records.now.keyed.few, h, l.invariant.2.fewer, p.1),
    )

pub returns-in-Repeated : goal.returns-in-Repeated
returns-in-Repeated g c =
    let p = c.requires in
    let l = c.loop-t in
    let h = c.loop-t-test.true in
    let is = c.nth-i.ensures ∙ listed-ahead (not (eqb g.row.LISTED 0)) l.list c.args.list.now l.t l.invariant.3 in
    let q = rw c.in-Repeated.is at c.try_both.ensures in
    rw q.1 (sifted_found l.invariant.2 p.0.rising p.0.below h is refl q.2)

pub loop-t-preserved : goal.loop-t-preserved
loop-t-preserved g c =
    let p = c.requires in
    let l = c.loop-t in
    let h = c.loop-t-test.true in
    let is = c.nth-i.ensures ∙ listed-ahead (not (eqb g.row.LISTED 0)) l.list c.args.list.now l.t l.invariant.3 in
    let q = rw c.in-Left.is at c.try_both.ensures in (
      c.try_both.auto.list ∙ l.invariant.0,
      c.try_both.auto.place ∙ l.invariant.1,
      tried l.invariant.2 is (spot_below _ p.2 l.invariant.1) (omega (arith, h, l.invariant.0, l.invariant.2.fewer)) (λ u k. p.0.rising u l.t k h) q,
      ahead l.invariant.2.fewer l.invariant.3 q,
    )

pub returns : goal.returns
returns g c =
    let p = c.requires in
    sifted_all c.loop-t.invariant.2 p.0.rising p.0.below (omega arith) (omega arith)
