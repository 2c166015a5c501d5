-- The first correction that clashes with an earlier one is found by looking at the last earlier one with the same number.
use Rattle.std.proofs.Common.{◌≡◌, ℕ, zero, suc, ◌<◌, ◌≤◌, Bool, true, false, cond, not, ◌&&◌, ◌||◌, eqb, ltb, List, length, get_or, sym, refl, ap, ◌∙◌, arith, ltb-false, ltb-true, eqb-true, Option, Some, None}
use borrow.Author.Tests.{eqb-false}
use Rattle.numbers.specs.Folds.{repeating, first, last, or_else}
use Rattle.dayfile.specs.Records.{correction_at}
use Rattle.checks.specs.Corrections.{same_number, number_pair, clashing, clash_pair}
use Rattle.checks.specs.Faults.{clashes_below, Lasts}
use Rattle.dayfile.specs.declared.records.Correction.{Correction}
use Rattle.numbers.proofs.Searches.{first_clear, some_at, some_clear, clear_some}
use Rattle.numbers.proofs.Last.{last_le, last_hit, last_again, last-after, some-last}

made : {n m p n' m' p' : ℕ} → n ≡ n' → m ≡ m' → p ≡ p' → ◌≡◌ {A = Correction} (record { number = n; mark = m; price = p }) (record { number = n'; mark = m'; price = p' })
made a b c = cc

-- one number and no clash: the same correction
same : (a b : Correction) → same_number a b ≡ true → clashing a b ≡ false → a ≡ b
same a b e f = made (eqb-true a.number b.number e) (eqb-true a.mark b.mark g.0) (eqb-true a.price b.price g.1)
  where
    neither : (n x y : Bool) → n ≡ true → (n && (not x || not y)) ≡ false → (x ≡ true) × (y ≡ true)
    neither true true true e f = (refl, refl)
    neither true true false e f = absurd (let z : ◌≡◌ {A = ℕ} 0 1 = cc in omega arith)
    neither true false y e f = absurd (let z : ◌≡◌ {A = ℕ} 0 1 = cc in omega arith)
    neither false x y e f = absurd (let z : ◌≡◌ {A = ℕ} 0 1 = cc in omega arith)

    g : (eqb a.mark b.mark ≡ true) × (eqb a.price b.price ≡ true)
    g = neither (same_number a b) (eqb a.mark b.mark) (eqb a.price b.price) e f

other-number : (a b : Correction) → same_number a b ≡ false → clashing a b ≡ false
other-number a b e = rw e

module _ (cs : List Correction) (i k : ℕ) where
  pub below_none : k ≡ 0 → false ≡ clashes_below cs i k
  unfolding clashes_below
  below_none e = rw e

  pub below_one : (j : ℕ) {r : Bool} → k ≡ suc j → r ≡ clash_pair cs i j → r ≡ clashes_below cs i k
  unfolding clashes_below
  below_one j e p = rw e p

module _ (cs : List Correction) (i : ℕ) (before : first (repeating (clash_pair cs)) i ≡ None) where
  abbrev at : ℕ → Correction
  at x = correction_at cs x

  -- with the last one of its number, j
  with_last : (j : ℕ) → last (number_pair cs i) i ≡ suc j → (b : Bool) → clashing (at i) (at j) ≡ b → repeating (clash_pair cs) i ≡ b
  with_last j e true p = some_at (clash_pair cs i) i j (omega (arith, last_le (number_pair cs i) i)) p
  with_last j e false p = clear_some (clash_pair cs i) i (λ x h. go x h (ltb x j) refl)
    where
      below : j < i
      below = omega (arith, last_le (number_pair cs i) i)

      hit : same_number (at i) (at j) ≡ true
      hit = last_hit (number_pair cs i) j (rw e at (last_again (number_pair cs i) i))

      go : (x : ℕ) → x < i → (b : Bool) → ltb x j ≡ b → clashing (at i) (at x) ≡ false
      go x h true q =
          rw (same (at i) (at j) hit p)
          (some_clear (clash_pair cs j) j x (first_clear (repeating (clash_pair cs)) i j before below) (ltb-true x j q))
      go x h false q = after (eqb x j) refl
        where
          after : (b : Bool) → eqb x j ≡ b → clashing (at i) (at x) ≡ false
          after true r = rw (eqb-true x j r) p
          after false r = other-number (at i) (at x) (last-after (number_pair cs i) i x (omega (arith, e, ltb-false x j q, eqb-false x j r)) h)

  by_last : (k : ℕ) → last (number_pair cs i) i ≡ k → repeating (clash_pair cs) i ≡ clashes_below cs i k
  unfolding clashes_below
  by_last zero e = clear_some (clash_pair cs i) i (λ x h. other-number (at i) (at x) (last-after (number_pair cs i) i x (omega (arith, e)) h))
  by_last (suc j) e = with_last j e (clashing (at i) (at j)) refl

  clash_last : repeating (clash_pair cs) i ≡ clashes_below cs i (last (number_pair cs i) i)
  clash_last = by_last (last (number_pair cs i) i) refl

-- ---- by the array of the last ones

-- a correction bears an earlier one's number where there is a last one that does
pub repeats : (cs : List Correction) {a : List ℕ} → Lasts cs a → {i : ℕ} → i < length cs → not (eqb (get_or a i 0) 0) ≡ repeating (number_pair cs) i
repeats cs h {i} inside = ap (λ (k : ℕ). not (eqb k 0)) (h.lasts.entry i inside) ∙ sym (some-last (number_pair cs i) i)

-- so it is enough to look at the last one with the same number where none before it clashes, and so for the first that clashes
module _ (cs : List Correction) {a : List ℕ} (h : Lasts cs a) where
  abbrev pub by_lasts : ℕ → Bool
  by_lasts i = clashes_below cs i (get_or a i 0)

  first_by_lasts : (n : ℕ) → n ≤ length cs → first by_lasts n ≡ first (repeating (clash_pair cs)) n
  unfolding first
  first_by_lasts zero l = refl
  first_by_lasts (suc n) l = rw (first_by_lasts n (omega arith)) (go (first (repeating (clash_pair cs)) n) refl)
    where
      go : (o : Option ℕ) → first (repeating (clash_pair cs)) n ≡ o
          → or_else o (cond (by_lasts n) (Some n) None) ≡ or_else o (cond (repeating (clash_pair cs) n) (Some n) None)
      go (Some i) e = refl
      go None e = rw (ap (clashes_below cs n) (h.lasts.entry n (omega arith)) ∙ sym (clash_last cs n e))

  pub first_clashing : first by_lasts (length cs) ≡ first (repeating (clash_pair cs)) (length cs)
  first_clashing = first_by_lasts (length cs) (omega arith)
