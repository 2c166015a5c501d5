-- The laws of searches by index, whatever the test: the first index that passes it, and whether one does.
use Rattle.std.proofs.Common.{◌≡◌, ℕ, zero, suc, ◌+◌, ◌<◌, Bool, true, false, cond, ◌||◌, sym, refl, ◌∙◌, ⊎_elim, le_of_suc-le-suc, not-suc-le-zero, eq-or-lt_of_le, add-one, arith, Option, Some, None, is_some}
use native.Mathlib.Decide.{le_ind}
use Rattle.numbers.specs.Folds.{first, some, repeating, or_else}
use Rattle.numbers.specs.Searches.{first_by, some_by, IsFirst, TellsSome}
use Rattle.numbers.proofs.Chain.{by_two}

-- ---- the first index

pub first-none : (t : ℕ → Bool) → first t 0 ≡ None
unfolding first
first-none t = refl

-- nothing below i, and a test of i that said no
pub first_more : (t : ℕ → Bool) (i : ℕ) {r : Bool} → first t i ≡ None → r ≡ t i → r ≡ false → first t (i + 1) ≡ None
unfolding first
first_more t i p e f = rw (add-one, p, ← e, f)

-- nothing below i, and a test of i that said yes: i is the first, however far the search goes on
pub first-here : (t : ℕ → Bool) (n i : ℕ) {r : Bool} → i < n → first t i ≡ None → r ≡ t i → r ≡ true → first t n ≡ Some i
unfolding first
first-here t n i h p e f = le_ind (λ (m : ℕ). first t m ≡ Some i) (rw (p, ← e, f)) (λ m le q. rw q) n h

both_none : (n : ℕ) (o : Option ℕ) (b : Bool) → or_else o (cond b (Some n) None) ≡ None → (o ≡ None) × (b ≡ false)
both_none n (Some i) b p = absurd (let z : ◌≡◌ {A = ℕ} 0 1 = cc in omega arith)
both_none n None true p = absurd (let z : ◌≡◌ {A = ℕ} 0 1 = cc in omega arith)
both_none n None false p = (refl, refl)

-- nothing below n: no index below n passes the test
pub first_clear : (t : ℕ → Bool) (n k : ℕ) → first t n ≡ None → k < n → t k ≡ false
unfolding first
first_clear t zero k p h = absurd (not-suc-le-zero h)
first_clear t (suc n) k p h =
    let b : (first t n ≡ None) × (t n ≡ false) = both_none n (first t n) (t n) p in
    ⊎_elim (λ (e : k ≡ n). rw e b.1) (λ (l : k < n). first_clear t n k b.0 l) (eq-or-lt_of_le (le_of_suc-le-suc h))

pub clear_first : (t : ℕ → Bool) (n : ℕ) → ((k : ℕ) → k < n → t k ≡ false) → first t n ≡ None
unfolding first
clear_first t zero h = refl
clear_first t (suc n) h = rw (clear_first t n (λ k l. h k (omega arith)), h n (omega arith))

-- two tests that agree
pub first-same : (t u : ℕ → Bool) → ((k : ℕ) → t k ≡ u k) → (n : ℕ) → first t n ≡ first u n
unfolding first
first-same t u h zero = refl
first-same t u h (suc n) = rw (h n, first-same t u h n)

-- one index more
pub first_next : (t : ℕ → Bool) (i : ℕ) {o r : Option ℕ} {b : Bool} → o ≡ first t i → b ≡ t i → r ≡ or_else o (cond b (Some i) None) → r ≡ first t (i + 1)
unfolding first
first_next t i p q e = rw (add-one, ← p, ← q) e

pub found_nothing : (o : Option ℕ) → is_some o ≡ false → o ≡ None
found_nothing (Some i) e = absurd (let z : ◌≡◌ {A = ℕ} 0 1 = cc in omega arith)
found_nothing None e = refl

-- ---- whether there is one

pub or_none : (a b : Bool) → (a || b) ≡ false → (a ≡ false) × (b ≡ false)
or_none false b e = (refl, e)
or_none true b e = absurd (let z : ◌≡◌ {A = ℕ} 0 1 = cc in omega arith)

pub some_clear : (t : ℕ → Bool) (n k : ℕ) → some t n ≡ false → k < n → t k ≡ false
unfolding some
some_clear t zero k p h = absurd (not-suc-le-zero h)
some_clear t (suc n) k p h =
    let b : (some t n ≡ false) × (t n ≡ false) = or_none (some t n) (t n) p in
    ⊎_elim (λ (e : k ≡ n). rw e b.1) (λ (l : k < n). some_clear t n k b.0 l) (eq-or-lt_of_le (le_of_suc-le-suc h))

pub some_at : (t : ℕ → Bool) (n k : ℕ) → k < n → t k ≡ true → some t n ≡ true
some_at t n k h e = go (some t n) refl
  where
    go : (b : Bool) → some t n ≡ b → some t n ≡ true
    go true p = p
    go false p = absurd (let z : ◌≡◌ {A = ℕ} 0 1 = (let w : true ≡ false = sym e ∙ some_clear t n k p h in cc) in omega arith)

pub clear_some : (t : ℕ → Bool) (n : ℕ) → ((k : ℕ) → k < n → t k ≡ false) → some t n ≡ false
unfolding some
clear_some t zero h = refl
clear_some t (suc n) h = rw (clear_some t n (λ k l. h k (omega arith)), h n (omega arith))

pub some_same : (t u : ℕ → Bool) → ((k : ℕ) → t k ≡ u k) → (n : ℕ) → some t n ≡ some u n
unfolding some
some_same t u h zero = refl
some_same t u h (suc n) = rw (h n, some_same t u h n)

-- the first that makes a pair with an earlier one, where two tests of pairs agree
pub repeated_same : (p q : ℕ → ℕ → Bool) → ((i j : ℕ) → p i j ≡ q i j) → (n : ℕ) → first (repeating p) n ≡ first (repeating q) n
repeated_same p q h n = first-same (repeating p) (repeating q) (λ i. some_same (p i) (q i) (h i) i) n

-- what holds at n and below it
pub extend : {Q : ℕ → Type 0} (n : ℕ) → Q n → ((j : ℕ) → j < n → Q j) → (j : ℕ) → j < suc n → Q j
extend {Q} n here below j h = ⊎_elim (λ (e : j ≡ n). rw e here) (λ (l : j < n). below j l) (eq-or-lt_of_le (le_of_suc-le-suc h))

-- a loop that asks whether some index passes
pub some_start : (t : ℕ → Bool) → false ≡ some t 0
unfolding some
some_start t = refl

pub some_next : (t : ℕ → Bool) (i : ℕ) {b r : Bool} → b ≡ some t i → r ≡ t i → (b || r) ≡ some t (i + 1)
unfolding some
some_next t i p q = rw add-one (by_two ◌||◌ refl p q)

-- ---- what a search answers, where each answer of its test is that of t

pub first_is : {P : ℕ → Bool → Type 0} (t : ℕ → Bool) {n : ℕ} → ((i : ℕ) (r : Bool) → i < n → P i r → r ≡ t i) → {o : Option ℕ} → IsFirst P n o → o ≡ first t n
first_is {P} t {n} agrees {o} f = go o f.first
  where
    go : (o : Option ℕ) → first_by P n o → o ≡ first t n
    go (Some i) w =
        sym (first-here t n i w.0 (clear_first t i (λ j h. sym (agrees j false (omega (arith, w.0)) (w.2 j h)))) (agrees i true w.0 w.1) refl)
    go None w = sym (clear_first t n (λ j h. sym (agrees j false h (w j h))))

pub some_is : {P : ℕ → Bool → Type 0} (t : ℕ → Bool) {n : ℕ} → ((i : ℕ) (r : Bool) → i < n → P i r → r ≡ t i) → {b : Bool} → TellsSome P n b → b ≡ some t n
some_is {P} t {n} agrees {b} f = go b f.some
  where
    go : (b : Bool) → some_by P n b → b ≡ some t n
    go true (i, h, p) = sym (some_at t n i h (sym (agrees i true h p)))
    go false w = sym (clear_some t n (λ j h. sym (agrees j false h (w j h))))
