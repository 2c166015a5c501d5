-- What is read is what the second place has, or the first.
use Rattle.std.proofs.Common.{◌≡◌, ℕ, suc, ◌-◌, ◌<◌, Bool, true, false, cond, eqb, List, get_or, sym, refl, ◌∙◌, true≢false, arith, eqb-true}
use mathlib.Core.Bool.{false≢true}
use borrow.Author.Tests.{eqb-false}
use Rattle.pairs.specs.Sifting.{TriedSecond, kept}
use Rattle.pairs.proofs.Spots.{another}
use Rattle.pairs.proofs.places.repeats_at.Goals as goal

-- one of two places, of which the first is not empty, that is not empty
record Read (places : List ℕ) (b held : ℕ) : Type 0 where
  some : 0 < held
  place : ℕ
  there : get_or places place 0 ≡ suc (held - 1)
  second : (get_or places b 0 ≡ 0 → ⊥) → get_or places b 0 ≡ suc (held - 1)

module _ (places : List ℕ) (a b : ℕ) (full : get_or places a 0 ≡ 0 → ⊥) where
  read_one : {held : ℕ} → held ≡ kept (get_or places b 0) (get_or places a 0) → Read places b held
  read_one {held} = go (eqb (get_or places b 0) 0) refl
    where
      go : (e : Bool) → eqb (get_or places b 0) 0 ≡ e → held ≡ cond e (get_or places a 0) (get_or places b 0) → Read places b held
      go true e p = record { some = omega (arith, full, p); place = a; there = omega (arith, full, p); second = λ f. absurd (f (eqb-true (get_or places b 0) 0 e)) }
      go false e p = let f = eqb-false (get_or places b 0) 0 e in record { some = omega (arith, f, p); place = b; there = omega (arith, f, p); second = λ _. omega (arith, f, p) }

module _ {key : ℕ → ℕ} {places : List ℕ} {b x y held : ℕ} (w : Read places b held) (key-is : y ≡ key (held - 1)) where
  told : (r : Bool) → eqb y x ≡ r → TriedSecond key places b x r
  told true e =
      record {
        same = λ _. record { place = w.place; holder = held - 1; there = w.there; same = sym key-is ∙ eqb-true y x e };
        differ = λ q. absurd (true≢false q);
      }
  told false e =
      record {
        same = λ q. absurd (false≢true q);
        differ = λ _ f. another (w.second f) (λ q. eqb-false y x e (key-is ∙ q));
      }

pub overflow_sub-held : goal.overflow_sub-held
overflow_sub-held c =
    let p = c.requires in
    let a = c.args in
    let w = read_one a.place.now a.first a.second p.3.full (rw (c.from.ensures, c.from-2.ensures) at c.held_at-held.ensures) in
    omega (arith, w.some)

pub key_at-requires : goal.key_at-requires
key_at-requires c =
    let p = c.requires in
    let a = c.args in
    let w = read_one a.place.now a.first a.second p.3.full (rw (c.from.ensures, c.from-2.ensures) at c.held_at-held.ensures) in
    omega (arith, p.0 w.place, w.there)

pub returns : goal.returns
returns c =
    let p = c.requires in
    let a = c.args in
    let w = read_one a.place.now a.first a.second p.3.full (rw (c.from.ensures, c.from-2.ensures) at c.held_at-held.ensures) in
    told w c.key_at.ensures _ refl
