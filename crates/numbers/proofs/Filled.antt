-- The laws of lists that hold a function's values in their first places.
use Rattle.std.proofs.Common.{◌≡◌, ℕ, ◌+◌, ◌<◌, ◌≤◌, Bool, true, false, eqb, List, [], length, get_or, set, replicate, sym, refl, ◌∙◌, ⊎_elim, append-nil, le_trans, le_of_suc-le-suc, not-suc-le-zero, eq-or-lt_of_le, add-one, arith, length-set, get_or-set_other, get_or-set_same, ext_get_or, eqb-true}
use lib.ListN.{get_or-replicate}
use borrow.Author.Tests.{eqb-false}
use Rattle.numbers.specs.Folds.{table, Filled}
use Rattle.numbers.proofs.Tables.{length-table, entry}

module _ {A : Type 0} {d : A} where
  pub filled_none : {f : ℕ → A} {r : List A} → Filled d f 0 r
  filled_none = record { entry = λ i h. absurd (not-suc-le-zero h) }

  -- one value in every place
  pub filled_all : {f : ℕ → A} (n : ℕ) (v : A) → ((i : ℕ) → v ≡ f i) → Filled d f n (replicate n v)
  filled_all n v e = record { entry = λ i h. get_or-replicate n i v d h ∙ e i }

  -- one store more
  pub filled_more : {f : ℕ → A} {n : ℕ} {v : A} {r : List A} → n < length r → v ≡ f n → Filled d f n r → Filled d f (n + 1) (set r n v)
  filled_more {f} {n} {v} {r} h e a = record { entry = go }
    where
      go : (i : ℕ) → i < n + 1 → get_or (set r n v) i d ≡ f i
      go i l =
          ⊎_elim (λ (q : i ≡ n). rw q (get_or-set_same r n v d h ∙ e))
          (λ (q : i < n). get_or-set_other r n i v d (λ w. omega arith) ∙ a.entry i q) (eq-or-lt_of_le (le_of_suc-le-suc (rw add-one at l)))

  -- a store that changes one value
  pub filled-set : {f g : ℕ → A} {n b : ℕ} {v : A} {r : List A} → b < length r → v ≡ g b → ((i : ℕ) → (i ≡ b → ⊥) → g i ≡ f i) → Filled d f n r → Filled d g n (set r b v)
  filled-set {f} {g} {n} {b} {v} {r} h e keep a = record { entry = λ i l. go i l (eqb i b) refl }
    where
      go : (i : ℕ) → i < n → (t : Bool) → eqb i b ≡ t → get_or (set r b v) i d ≡ g i
      go i l true p = rw (eqb-true i b p) (get_or-set_same r b v d h ∙ e)
      go i l false p = get_or-set_other r b i v d (eqb-false i b p) ∙ a.entry i l ∙ sym (keep i (eqb-false i b p))

-- a loop at i that fills a list of n places: the first i are filled
pub record Done {A : Type 0} (d : A) (f : ℕ → A) (n i : ℕ) (r : List A) : Type 0 where
  pub upto : i ≤ n
  pub size : length r ≡ n
  pub filled : Filled d f i r

module _ {A : Type 0} {d : A} {f : ℕ → A} {n : ℕ} where
  pub none_done : {r : List A} → length r ≡ n → Done d f n 0 r
  none_done e = record { upto = omega arith; size = e; filled = filled_none }

  pub one_more : {i : ℕ} {r : List A} {v : A} → i < n → v ≡ f i → Done d f n i r → Done d f n (i + 1) (set r i v)
  one_more h e l = record { upto = omega arith; size = simp length-set l.size; filled = filled_more (rw l.size h) e l.filled }

  pub all_done : {i : ℕ} {r : List A} → n ≤ i → Done d f n i r → Filled d f n r
  all_done h l = record { entry = λ j g. l.filled.entry j (le_trans g h) }

  -- a list of n places with these values
  pub filled-table : {r : List A} → length r ≡ n → Filled d f n r → r ≡ table f n
  filled-table {r} e h = ext_get_or d r (table f n) (e ∙ sym (length-table f n)) (λ i g. h.entry i (rw e at g) ∙ sym (table_at i (rw e at g)))
    where
      table_at : (i : ℕ) → i < n → get_or (table f n) i d ≡ f i
      table_at i g = rw append-nil at (entry f n i [] d g)

  pub table_filled : {r : List A} → r ≡ table f n → Filled d f n r
  table_filled e = record { entry = λ i g. rw e (rw append-nil at (entry f n i [] d g)) }
