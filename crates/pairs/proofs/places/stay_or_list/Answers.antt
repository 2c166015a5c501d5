-- What is written at the place is what was there, or the record.
use Rattle.std.proofs.Common.{ℕ, ◌+◌, ◌≤◌, Bool, true, false, cond, eqb, set, refl, ap, arith}
use Rattle.pairs.specs.Sifting.{kept}
use Rattle.pairs.proofs.places.stay_or_list.Goals as goal

kept-few : (held i k : ℕ) → held ≤ k → i ≤ k → kept held i ≤ k
kept-few held i k h l = go (eqb held 0)
  where
    go : (b : Bool) → cond b i held ≤ k
    go true = l
    go false = h

pub overflow_cast-place : goal.overflow_cast-place
overflow_cast-place c =
    let p = c.requires in
    let w = c.from-held in
    omega (arith, c.held_at.ensures, kept-few w.result (c.args.i + 1) 4_096 (omega (arith, w.ensures, p.4 c.args.spot)) (omega (arith, p.3)))

pub returns : goal.returns
returns c =
    let a = c.args in
    let w = c.from-held.ensures in
    record { place = ap (set a.place.now a.spot) (rw w at c.held_at.ensures); entry = refl; count = rw w at c.one_more.ensures }
