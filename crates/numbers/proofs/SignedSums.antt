-- Sums over the indices below n, of the same numbers, of sums, and gathered by a key.
use Rattle.std.proofs.Common.{◌≡◌, ℕ, zero, suc, ◌<◌, ◌≤◌, cond, eqb, ℤ, pos, ◌+ℤ◌, ◌*ℤ◌, sym, refl, ap, ◌∙◌, ⊎_elim, le_of_suc-le-suc, not-suc-le-zero, eq-or-lt_of_le, arith, eq-eqb, ne_eqb}
use lib.IntN.{+ℤ_idl, +ℤ_idr, +ℤ_assoc, +ℤ_comm, zero-*ℤ}
use Rattle.numbers.proofs.Integers.{+ℤ-*ℤ}
use Rattle.numbers.specs.Folds.{sum}

-- (a + b) + (c + d), with the inner two changed over
swap : (a b c d : ℤ) → (a +ℤ b) +ℤ (c +ℤ d) ≡ (a +ℤ c) +ℤ (b +ℤ d)
swap a b c d =
    +ℤ_assoc a b (c +ℤ d) ∙ ap (λ x. a +ℤ x) (sym (+ℤ_assoc b c d) ∙ ap (λ x. x +ℤ d) (+ℤ_comm b c) ∙ +ℤ_assoc c b d) ∙ sym (+ℤ_assoc a c (b +ℤ d))

pub sum_below : (f g : ℕ → ℤ) (n : ℕ) → ((i : ℕ) → i < n → f i ≡ g i) → sum f n ≡ sum g n
sum_below f g zero h = refl
sum_below f g (suc n) h = rw (sum_below f g n (λ i l. h i (omega arith)), h n (omega arith))

pub sum_same : (f g : ℕ → ℤ) (n : ℕ) → ((i : ℕ) → f i ≡ g i) → sum f n ≡ sum g n
sum_same f g n h = sum_below f g n (λ i l. h i)

pub sum_plus : (f g : ℕ → ℤ) (n : ℕ) → sum (λ i. f i +ℤ g i) n ≡ sum f n +ℤ sum g n
sum_plus f g zero = refl
sum_plus f g (suc n) = rw (sum_plus f g n) (swap (sum f n) (sum g n) (f n) (g n))

module _ (w : ℕ → ℤ) (x : ℤ) (j : ℕ) where
  -- x at j, 0 elsewhere
  abbrev only : ℕ → ℤ
  only m = cond (eqb j m) x (pos 0) *ℤ w m

  off : (m : ℕ) → (j ≡ m → ⊥) → only m ≡ pos 0
  off m h = rw (ne_eqb j m h) (zero-*ℤ (w m))

  sum-none : (n : ℕ) → n ≤ j → sum only n ≡ pos 0
  sum-none zero h = refl
  sum-none (suc n) h = rw (sum-none n (omega arith), off n (λ e. omega arith))

  pub sum_one : (n : ℕ) → j < n → sum only n ≡ x *ℤ w j
  sum_one zero h = absurd (not-suc-le-zero h)
  sum_one (suc n) h =
      ⊎_elim
      (λ (e : j ≡ n). rw (sum-none n (omega arith), ← e, eq-eqb j j refl) (+ℤ_idl (x *ℤ w j)))
      (λ (l : j < n). rw (sum_one n l, off n (λ e. omega arith)) (+ℤ_idr (x *ℤ w j)))
      (eq-or-lt_of_le (le_of_suc-le-suc h))

zeros : (n : ℕ) → sum (λ (i : ℕ). pos 0) n ≡ pos 0
zeros zero = refl
zeros (suc n) = rw (zeros n)

module _ (value : ℕ → ℤ) (key : ℕ → ℕ) (w : ℕ → ℤ) (M : ℕ) where
  -- what the first n have for the key m
  abbrev pub gathered : ℕ → ℕ → ℤ
  gathered n m = sum (λ i. cond (eqb (key i) m) (value i) (pos 0)) n

  pub exchange : (n : ℕ) → ((i : ℕ) → i < n → key i < M) → sum (λ i. value i *ℤ w (key i)) n ≡ sum (λ m. gathered n m *ℤ w m) M
  exchange zero h = sym (sum_same (λ m. pos 0 *ℤ w m) (λ m. pos 0) M (λ m. zero-*ℤ (w m)) ∙ zeros M)
  exchange (suc n) h =
      ap (λ y. y +ℤ (value n *ℤ w (key n))) (exchange n (λ i l. h i (omega arith)))
      ∙ ap (λ y. sum (λ m. gathered n m *ℤ w m) M +ℤ y) (sym (sum_one w (value n) (key n) M (h n (omega arith))))
      ∙ sym (sum_plus (λ m. gathered n m *ℤ w m) (only w (value n) (key n)) M)
      ∙ sym (sum_same (λ m. gathered (suc n) m *ℤ w m) (λ m. (gathered n m *ℤ w m) +ℤ only w (value n) (key n) m) M (λ m. +ℤ-*ℤ (gathered n m) _ (w m)))
