-- Tests and what they tell: a test is true exactly where a statement holds.
use Rattle.std.proofs.Common.{◌≡◌, ℕ, zero, suc, ◌%◌, ◌<◌, ◌≤◌, Bool, true, false, not, ◌&&◌, ◌||◌, eqb, ltb, leb, ◌⊎◌, ℤ, ◌<ℤ◌, sym, refl, ◌∙◌, inl, inr, ⊎_elim, le_of_suc-le-suc, not-suc-le-zero, eq-or-lt_of_le, arith, ltb-false, ltb-true, eq-eqb, ne_eqb, eqb-true, leb-false, leb-true}
use Prim.Native.Nat.{◌∣◌}
use native.Mathlib.Nat.{dvd_iff_mod-eq-zero}
use lib.Signed.{lt_z}
use borrow.Author.Tests.{eqb-false, not-true, not-false}
use Rattle.numbers.specs.Folds.{some}

-- b is true exactly where A holds
pub record Tells (b : Bool) (A : Type 0) : Type 0 where
  pub yes : b ≡ true → A
  pub no : b ≡ false → ¬ A

pub not_both : {A : Type 0} {b : Bool} → b ≡ true → b ≡ false → A
not_both p q = absurd (let z : ◌≡◌ {A = ℕ} 0 1 = (let w : true ≡ false = sym p ∙ q in cc) in omega arith)

-- both of two tests, and neither
pub and_left : (a b : Bool) → (a && b) ≡ true → a ≡ true
and_left true b e = refl
and_left false b e = e

pub and_right : (a b : Bool) → (a && b) ≡ true → b ≡ true
and_right true b e = e
and_right false b e = not_both e refl

pub or_left : (a b : Bool) → (a || b) ≡ false → a ≡ false
or_left true b e = e
or_left false b e = refl

pub or_right : (a b : Bool) → (a || b) ≡ false → b ≡ false
or_right true b e = not_both refl e
or_right false b e = e

-- a test of what holds
pub told : (b : Bool) {A : Type 0} → Tells b A → A → b ≡ true
told true t a = refl
told false t a = absurd (t.no refl a)

pub denied : (b : Bool) {A : Type 0} → Tells b A → ¬ A → b ≡ false
denied true t n = absurd (n (t.yes refl))
denied false t n = refl

-- the same in other words
pub tells_as : {b : Bool} {A B : Type 0} → (A → B) → (B → A) → Tells b A → Tells b B
tells_as f g t = record { yes = λ e. f (t.yes e); no = λ e x. t.no e (g x) }

pub tells_or : (a b : Bool) {A B : Type 0} → Tells a A → Tells b B → Tells (a || b) (A ⊎ B)
tells_or true b s t = record { yes = λ e. inl (s.yes refl); no = λ e. not_both refl e }
tells_or false b s t = record { yes = λ e. inr (t.yes e); no = λ e. ⊎_elim (s.no refl) (t.no e) }

pub tells_and : (a b : Bool) {A B : Type 0} → Tells a A → Tells b B → Tells (a && b) (A × B)
tells_and true b s t = record { yes = λ e. (s.yes refl, t.yes e); no = λ e x. t.no e x.1 }
tells_and false b s t = record { yes = λ e. not_both e refl; no = λ e x. s.no refl x.0 }

pub tells_not : (b : Bool) {A : Type 0} → Tells b A → Tells (not b) (¬ A)
tells_not true t = record { yes = λ e. not_both e refl; no = λ e n. n (t.yes refl) }
tells_not false t = record { yes = λ e. t.no refl; no = λ e. not_both refl e }

-- one of two is wrong
pub tells_either : (a b : Bool) {A B : Type 0} → Tells (not a) A → Tells (not b) B → Tells (not (a && b)) (A ⊎ B)
tells_either true b s t = record { yes = λ e. inr (t.yes e); no = λ e. ⊎_elim (s.no refl) (t.no e) }
tells_either false b s t = record { yes = λ e. inl (s.yes refl); no = λ e. not_both refl e }

-- alternatives, the other way round
pub or_three : {A B C : Type 0} → (A ⊎ B) ⊎ C → A ⊎ B ⊎ C
or_three (inl (inl a)) = inl a
or_three (inl (inr b)) = inr (inl b)
or_three (inr c) = inr (inr c)

pub or_three_back : {A B C : Type 0} → A ⊎ B ⊎ C → (A ⊎ B) ⊎ C
or_three_back (inl a) = inl (inl a)
or_three_back (inr (inl b)) = inl (inr b)
or_three_back (inr (inr c)) = inr c

pub or_four : {A B C D : Type 0} → ((A ⊎ B) ⊎ C) ⊎ D → A ⊎ B ⊎ C ⊎ D
or_four (inl x) = ⊎_elim inl (λ y. inr (⊎_elim inl (λ c. inr (inl c)) y)) (or_three x)
or_four (inr d) = inr (inr (inr d))

pub or_four_back : {A B C D : Type 0} → A ⊎ B ⊎ C ⊎ D → ((A ⊎ B) ⊎ C) ⊎ D
or_four_back (inl a) = inl (inl (inl a))
or_four_back (inr (inl b)) = inl (inl (inr b))
or_four_back (inr (inr (inl c))) = inl (inr c)
or_four_back (inr (inr (inr d))) = inr d

-- ---- numbers

pub tells_lt : (m n : ℕ) → Tells (ltb m n) (m < n)
tells_lt m n = record { yes = ltb-true m n; no = λ e h. (let k = ltb-false m n e in omega arith) }

pub tells_le : (m n : ℕ) → Tells (leb m n) (m ≤ n)
tells_le m n = record { yes = leb-true m n; no = λ e h. (let k = leb-false m n e in omega arith) }

pub tells_above : (m n : ℕ) → Tells (not (leb m n)) (n < m)
tells_above m n = record { yes = λ e. leb-false m n (not-true (leb m n) e); no = λ e h. (let k = leb-true m n (not-false (leb m n) e) in omega arith) }

pub tells_eq : (m n : ℕ) → Tells (eqb m n) (m ≡ n)
tells_eq m n = record { yes = eqb-true m n; no = eqb-false m n }

pub tells_divides : (t p : ℕ) → Tells (eqb (p % t) 0) (t ∣ p)
tells_divides t p = tells_as (dvd_iff_mod-eq-zero t).1 (dvd_iff_mod-eq-zero t).0 (tells_eq (p % t) 0)

pub tells_less : (a b : ℤ) → Tells (lt_z a b) (a <ℤ b)
tells_less a b = by_test (lt_z a b) refl
  where
    by_test : (t : Bool) → lt_z a b ≡ t → Tells (lt_z a b) (a <ℤ b)
    by_test t e = record { yes = λ p. record { lt = rw p tt }; no = λ p h. rw p at h.lt }

-- ---- an index below n

pub tells_some : {P : ℕ → Type 0} (t : ℕ → Bool) (n : ℕ) → ((i : ℕ) → Tells (t i) (P i)) → Tells (some t n) ((j : ℕ) × (j < n) × P j)
unfolding some
tells_some t zero h = record { yes = λ e. not_both e refl; no = λ e x. not-suc-le-zero x.1 }
tells_some {P} t (suc n) h =
    tells_as
    (⊎_elim (λ x. (x.0, omega (arith, x.1), x.2)) (λ p. (n, omega arith, p)))
    (λ x. ⊎_elim (λ (e : x.0 ≡ n). inr (rw e at x.2)) (λ (l : x.0 < n). inl (x.0, l, x.2)) (eq-or-lt_of_le (le_of_suc-le-suc x.1)))
    (tells_or (some t n) (t n) (tells_some t n h) (h n))

-- a test for equal numbers goes both ways
pub eqb_comm : (m n : ℕ) → eqb m n ≡ eqb n m
eqb_comm m n = go (eqb m n) refl
  where
    go : (b : Bool) → eqb m n ≡ b → eqb m n ≡ eqb n m
    go true e = e ∙ sym (eq-eqb n m (sym (eqb-true m n e)))
    go false e = e ∙ sym (ne_eqb n m (λ q. eqb-false m n e (sym q)))
