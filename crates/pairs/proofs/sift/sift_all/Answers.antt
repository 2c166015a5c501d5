use Rattle.std.proofs.Common.{◌≤◌, length, sym, refl, ◌∙◌, length-take-le, arith, rules}
use Rattle.pairs.proofs.Spots.{places_as, sixteenth_as}
use Rattle.pairs.proofs.Turns.{rising_part, sifts-turn, length-rest}
use Rattle.pairs.proofs.sift.sift_all.Goals as goal

pub sift-s-requires : goal.sift-s-requires
sift-s-requires c =
    let p = c.requires in
    (rw p.0 (record { below = λ u k. k; rising = λ u v k h. k }), omega (arith, p.0), p.1, p.2)

pub loop-turn-init : goal.loop-turn-init
loop-turn-init c = (c.sift-s.auto.list ∙ c.requires.0, refl, rw c.requires.0 at c.sift-s.ensures)

pub to_sift-all-requires : goal.to_sift-all-requires
to_sift-all-requires c = omega (arith, c.loop-turn.invariant.0, c.args.records.now.keyed.few)

pub slice_bounds-sift_anew-end : goal.slice_bounds-sift_anew-end
slice_bounds-sift_anew-end c =
    let l = c.loop-turn in
    let w = (rw l.invariant.0 at c.to_sift-all.ensures).sifts _ l.invariant.2 in
    omega (arith, w.fewer, l.invariant.0, c.to_sift-all.auto.list)

pub slice_bounds-sift_anew-end-in-loop-turn : goal.slice_bounds-sift_anew-end-in-loop-turn
slice_bounds-sift_anew-end-in-loop-turn c =
    let l = c.loop-turn in
    let w = (rw l.invariant.0 at c.to_sift-all.ensures).sifts _ l.invariant.2 in
    sym (length-take-le _ _ (omega (arith, w.fewer, l.invariant.0, c.to_sift-all.auto.list)))

pub sift_anew-requires : goal.sift_anew-requires
sift_anew-requires c =
    let p = c.requires in
    let l = c.loop-turn in
    let w = (rw l.invariant.0 at c.to_sift-all.ensures).sifts _ l.invariant.2 in
    let few : c.to_sift-all.result.left ≤ length c.to_sift-all.new.list = omega (arith, w.fewer, l.invariant.0, c.to_sift-all.auto.list) in
    let as_many = l.invariant.1 ∙ c.sift-s.auto.place in (
      rising_part c.to_sift-all.new.list few w.listed,
      rw (length-take-le _ _ few) w.fewer,
      places_as as_many p.1,
      sixteenth_as as_many p.3,
    )

pub loop-turn-preserved : goal.loop-turn-preserved
loop-turn-preserved c =
    let l = c.loop-turn in
    let w = (rw l.invariant.0 at c.to_sift-all.ensures).sifts _ l.invariant.2 in
    let few : c.to_sift-all.result.left ≤ length c.to_sift-all.new.list = omega (arith, w.fewer, l.invariant.0, c.to_sift-all.auto.list) in (
      length-rest c.sift_anew.new.list c.to_sift-all.new.list few c.sift_anew.auto.list ∙ c.to_sift-all.auto.list ∙ l.invariant.0,
      c.sift_anew.auto.place ∙ l.invariant.1,
      sifts-turn c.sift_anew.new.list c.sift_anew.result c.map-s.result w few c.sift_anew.auto.list c.sift_anew.ensures (λ x y p. search rules) c.map-s.ensures.cases,
    )

pub returns-then-is_some_and : goal.returns-then-is_some_and
returns-then-is_some_and c = c.loop-turn.invariant.2

pub returns-after-loop-turn : goal.returns-after-loop-turn
returns-after-loop-turn c = c.loop-turn.invariant.2
