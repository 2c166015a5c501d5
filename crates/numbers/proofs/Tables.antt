-- The laws of a list that is filled from the front with a function's values.
use Rattle.std.proofs.Common.{◌≡◌, ℕ, zero, suc, ◌+◌, ◌<◌, ◌≤◌, List, ◌∷◌, ◌++◌, length, get_or, take, drop, set, refl, ⊎_elim, append_assoc, le_of_suc-le-suc, not-suc-le-zero, eq-or-lt_of_le, add-one, arith, length-append, length-drop, drop-cons, take_at, drop_at}
use lib.Seq.{set_at, get_or_at}
use Rattle.numbers.specs.Folds.{table, front}

module _ {A : Type 0} (f : ℕ → A) where
  pub length-table : (n : ℕ) → length (table f n) ≡ n
  length-table zero = refl
  length-table (suc n) = simp length-append (omega (arith, length-table n))

  -- one store more
  pub filled : (a : List A) (i : ℕ) {v : A} → i < length a → v ≡ f i → set (front f a i) i v ≡ front f a (i + 1)
  filled a i {v} h e =
      rw (add-one, drop-cons a i v, set_at (table f i) (get_or a i v) (drop (suc i) a) v i (length-table i), append_assoc, e)

  -- the entries
  pub entry : (n i : ℕ) (r : List A) (d : A) → i < n → get_or (table f n ++ r) i d ≡ f i
  entry zero i r d h = absurd (not-suc-le-zero h)
  entry (suc n) i r d h =
      rw append_assoc
      (⊎_elim (λ (e : i ≡ n). rw e (get_or_at (table f n) (f n) r d n (length-table n)))
      (λ (l : i < n). entry n i (f n ∷ r) d l) (eq-or-lt_of_le (le_of_suc-le-suc h)))

  pub length_front : (a : List A) (n : ℕ) → n ≤ length a → length (front f a n) ≡ length a
  length_front a n h = simp (length-append, length-table, length-drop) (omega arith)

  -- the first n places
  pub take-front : (a : List A) (n : ℕ) → take n (front f a n) ≡ table f n
  take-front a n = take_at (table f n) (drop n a) n (length-table n)

  -- and those after them
  pub drop-front : (a : List A) (n : ℕ) → drop n (front f a n) ≡ drop n a
  drop-front a n = drop_at (table f n) (drop n a) n (length-table n)

-- of the same values
pub table_same : {A : Type 0} (f g : ℕ → A) (n : ℕ) → ((i : ℕ) → i < n → f i ≡ g i) → table f n ≡ table g n
table_same f g zero h = refl
table_same f g (suc n) h = rw (table_same f g n (λ i l. h i (omega arith)), h n (omega arith))
