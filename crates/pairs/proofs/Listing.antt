-- The first of the listed records that repeats an earlier one.
use Rattle.std.proofs.Common.{◌≡◌, ℕ, ◌<◌, Bool, true, false, eqb, ltb, sym, refl, arith, ltb-false, ltb-true, eq-eqb, ne_eqb, eqb-true, List, min}
use Rattle.std.specs.Bool.{then_some}
use Rattle.numbers.specs.Folds.{first, repeating}
use Rattle.numbers.proofs.Searches.{clear_first, first-here, some_at, clear_some}
use Rattle.pairs.specs.Indices.{FirstOf}
use Rattle.pairs.specs.Sifting.{Sifts, Tries}
use Rattle.pairs.proofs.Least.{min-least}

module _ {key : ℕ → ℕ} {n : ℕ} where
  -- of no record
  pub first_of-none : {f : ℕ → ℕ} → FirstOf key f n 0 n
  first_of-none = record { within = omega arith; repeats = λ h. absurd (omega arith); lowest = λ j k a b l e. absurd (omega (arith, a.below)) }

  -- of all: it is what the search by index finds
  module _ {i : ℕ} (o : FirstOf key (λ (u : ℕ). u) n n i) where
    none_before : (k : ℕ) → k < i → repeating (λ j l. eqb (key j) (key l)) k ≡ false
    none_before k h =
        clear_some _ k (λ j l. ne_eqb (key k) (key j) (λ e.
        absurd
        (omega (
          arith,
          o.lowest
              j
              k
              (record { place = j; below = omega (arith, o.within); is = refl })
              (record { place = k; below = omega (arith, o.within); is = refl })
              l
              (sym e),
        ))))

    repeated : i < n → repeating (λ j l. eqb (key j) (key l)) i ≡ true
    repeated h = let r = o.repeats h in some_at _ i r.other r.lower (eq-eqb (key i) (key r.other) (sym r.same))

    pub found_first : then_some (ltb i n) i ≡ first (repeating (λ j l. eqb (key j) (key l))) n
    found_first = go (ltb i n) refl
      where
        go : (b : Bool) → ltb i n ≡ b → then_some b i ≡ first (repeating (λ j l. eqb (key j) (key l))) n
        go true e = let h = ltb-true i n e in sym (first-here _ n i h (clear_first _ i none_before) refl (repeated h))
        go false e = let h = ltb-false i n e in sym (clear_first _ n (λ k l. none_before k (omega arith)))

  -- where none is left of sifting
  pub sifted_first : {list : List ℕ} {found left : ℕ} → Sifts key n n (λ u. u) list found left
      → Tries (FirstOf key (λ u. u) n n) (then_some (eqb left 0) (min n found))
  sifted_first {list} {found} {left} s = go (eqb left 0) refl
    where
      go : (b : Bool) → eqb left 0 ≡ b → Tries (FirstOf key (λ u. u) n n) (then_some b (min n found))
      go true e = rw (min-least n found) (s.answers n (rw (eqb-true left 0 e) first_of-none))
      go false e = tt
