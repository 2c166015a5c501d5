-- The smaller of two numbers.
use Rattle.std.proofs.Common.{◌≡◌, ℕ, ◌≤◌, Bool, true, false, cond, leb, min, ⊎_elim, ◌∙◌, refl, arith, leb-false, leb-true}
use Rattle.std.proofs.Math.Nat.{le_of_lt, min-eq_left, min-eq_right}
use Rattle.std.proofs.lemmas.Bool.{cases_lt}
use Rattle.pairs.specs.Keys.{least}

module _ (m n : ℕ) where
  pub least_first : m ≤ n → m ≡ least m n
  least_first h = go (leb m n) refl
    where
      go : (b : Bool) → leb m n ≡ b → m ≡ cond b m n
      go true e = refl
      go false e = absurd (let k = leb-false m n e in omega arith)

  pub least-second : n ≤ m → n ≡ least m n
  least-second h = go (leb m n) refl
    where
      go : (b : Bool) → leb m n ≡ b → n ≡ cond b m n
      go true e = let k = leb-true m n e in omega arith
      go false e = refl

  pub least-below-first : least m n ≤ m
  least-below-first = go (leb m n) refl
    where
      go : (b : Bool) → leb m n ≡ b → cond b m n ≤ m
      go true e = omega arith
      go false e = let k = leb-false m n e in omega arith

  pub least-below-second : least m n ≤ n
  least-below-second = go (leb m n) refl
    where
      go : (b : Bool) → leb m n ≡ b → cond b m n ≤ n
      go true e = let k = leb-true m n e in omega arith
      go false e = omega arith

  -- it is what the library's method answers
  pub min-least : min m n ≡ least m n
  min-least = ⊎_elim (λ h. min-eq_left (le_of_lt h) ∙ least_first (le_of_lt h)) (λ h. min-eq_right h ∙ least-second h) (cases_lt m n)
