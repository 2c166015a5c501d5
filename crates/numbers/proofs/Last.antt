-- The laws of the last index that passes a test.
use Rattle.std.proofs.Common.{◌≡◌, ℕ, zero, suc, ◌<◌, ◌≤◌, Bool, true, false, cond, not, ◌||◌, eqb, sym, refl, ap, ◌∙◌, ⊎_elim, le_of_suc-le-suc, not-suc-le-zero, eq-or-lt_of_le, arith, ne_eqb}
use mathlib.Core.Bool.{or-false}
use Rattle.numbers.specs.Folds.{some, last}

last_none : (t : ℕ → Bool) → last t 0 ≡ 0
unfolding last
last_none t = refl

pub last_miss : (t : ℕ → Bool) (n : ℕ) → t n ≡ false → last t (suc n) ≡ last t n
unfolding last
last_miss t n e = rw e

pub last-here : (t : ℕ → Bool) (n : ℕ) → t n ≡ true → last t (suc n) ≡ suc n
unfolding last
last-here t n e = rw e

pub last_le : (t : ℕ → Bool) (n : ℕ) → last t n ≤ n
unfolding last
last_le t zero = omega arith
last_le t (suc n) = go (t n) (last_le t n)
  where
    go : (b : Bool) → last t n ≤ n → cond b (suc n) (last t n) ≤ suc n
    go true h = omega arith
    go false h = omega arith

-- where the last one below suc k is k, k passes
pub last_hit : (t : ℕ → Bool) (k : ℕ) → last t (suc k) ≡ suc k → t k ≡ true
last_hit t k e = go (t k) refl
  where
    go : (b : Bool) → t k ≡ b → t k ≡ true
    go true p = p
    go false p = absurd (omega (arith, last_le t k, sym (last_miss t k p) ∙ e))

pub last_again : (t : ℕ → Bool) (n : ℕ) → last t (last t n) ≡ last t n
last_again t zero = rw last_none (last_none t)
last_again t (suc n) = go (t n) refl (last_again t n)
  where
    go : (b : Bool) → t n ≡ b → last t (last t n) ≡ last t n → last t (last t (suc n)) ≡ last t (suc n)
    go true p h = rw (last-here t n p) (last-here t n p)
    go false p h = rw (last_miss t n p) h

-- two tests that agree
pub last-same : (t u : ℕ → Bool) → ((k : ℕ) → t k ≡ u k) → (n : ℕ) → last t n ≡ last u n
unfolding last
last-same t u h zero = refl
last-same t u h (suc n) = rw (h n, last-same t u h n)

-- there is none where nothing passes
pub last_clear : (t : ℕ → Bool) (n : ℕ) → ((k : ℕ) → k < n → t k ≡ false) → last t n ≡ 0
last_clear t zero h = last_none t
last_clear t (suc n) h = last_miss t n (h n (omega arith)) ∙ last_clear t n (λ k l. h k (omega arith))

-- nothing passes after the last one
pub last-after : (t : ℕ → Bool) (n x : ℕ) → last t n ≤ x → x < n → t x ≡ false
last-after t zero x le h = absurd (not-suc-le-zero h)
last-after t (suc n) x le h = go (t n) refl (last-after t n x)
  where
    go : (b : Bool) → t n ≡ b → (last t n ≤ x → x < n → t x ≡ false) → t x ≡ false
    go true p rest = absurd (omega (arith, last-here t n p))
    go false p rest =
        ⊎_elim (λ (e : x ≡ n). rw e p) (λ (l : x < n). rest (omega (arith, last_miss t n p)) l) (eq-or-lt_of_le (le_of_suc-le-suc h))

-- there is one where the last one is not 0
pub some-last : (t : ℕ → Bool) (n : ℕ) → some t n ≡ not (eqb (last t n) 0)
unfolding some last
some-last t zero = refl
some-last t (suc n) = go (t n) (some-last t n)
  where
    or_true : (a : Bool) → (a || true) ≡ true
    or_true true = refl
    or_true false = refl

    go : (b : Bool) → some t n ≡ not (eqb (last t n) 0) → (some t n || b) ≡ not (eqb (cond b (suc n) (last t n)) 0)
    go true e = or_true (some t n) ∙ sym (ap not (ne_eqb (suc n) 0 (λ e. omega arith)))
    go false e = or-false (some t n) ∙ e
