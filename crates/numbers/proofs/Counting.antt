-- How many of n numbers are different, and how many repeat an earlier one: together they are n.
use Rattle.std.proofs.Common.{◌≡◌, ℕ, zero, suc, ◌+◌, ◌<◌, ◌≤◌, Bool, true, false, cond, ◌||◌, eqb, refl, ap, ◌∙◌, not-suc-le-zero, arith, eq-eqb, ne_eqb, eqb-true}
use mathlib.Core.Bool.{or-false}
use borrow.Author.Tests.{eqb-false}
use Rattle.numbers.specs.Folds.{some, count}
use Rattle.numbers.proofs.Searches.{extend}

count_same : (n : ℕ) (t u : ℕ → Bool) → ((i : ℕ) → i < n → u i ≡ t i) → count u n ≡ count t n
count_same zero t u same = refl
count_same (suc n) t u same = rw (count_same n t u (λ i h. same i (omega arith)), same n (omega arith))

count_none : (n : ℕ) → count (λ (i : ℕ). false) n ≡ 0
count_none zero = refl
count_none (suc n) = rw (count_none n)

-- a test that passes at one number more
count_one_more : (n : ℕ) (t u : ℕ → Bool) (v : ℕ) → v < n → t v ≡ false → u v ≡ true → ((i : ℕ) → (i ≡ v → ⊥) → u i ≡ t i) → count u n ≡ suc (count t n)
count_one_more zero t u v h f p same = omega arith
count_one_more (suc n) t u v h f p same = go (eqb n v) refl (count_one_more n t u v)
  where
    go : (b : Bool) → eqb n v ≡ b
        → (v < n → t v ≡ false → u v ≡ true → ((i : ℕ) → (i ≡ v → ⊥) → u i ≡ t i) → count u n ≡ suc (count t n))
        → count u n + cond (u n) 1 0 ≡ suc (count t n + cond (t n) 1 0)
    go true e below =
        let q = eqb-true n v e in
        rw (count_same n t u (λ i l. same i (λ r. omega arith)), q, f, p) (omega arith)
    go false e below =
        let l : v < n = let d = eqb-false n v e in omega arith in
        rw (below l f p same, same n (eqb-false n v e)) (omega arith)

-- `number` gives the number at each index
module _ (number : ℕ → ℕ) where
  -- some of the first n bears v
  abbrev pub bears : ℕ → ℕ → Bool
  bears n v = some (λ k. eqb v (number k)) n

  different_more : (top n : ℕ) → number n < top → count (bears (suc n)) top + cond (bears n (number n)) 1 0 ≡ suc (count (bears n) top)
  unfolding some
  different_more top n h = go (bears n (number n)) refl
    where
      other : (v : ℕ) → (v ≡ number n → ⊥) → bears (suc n) v ≡ bears n v
      other v d = rw (ne_eqb v (number n) d) (or-false (bears n v))

      go : (b : Bool) → bears n (number n) ≡ b → count (bears (suc n)) top + cond b 1 0 ≡ suc (count (bears n) top)
      go true e =
          rw (count_same top (bears n) (bears (suc n)) (λ v l. at_all v (eqb v (number n)) refl)) (omega arith)
        where
          at_all : (v : ℕ) (b : Bool) → eqb v (number n) ≡ b → bears (suc n) v ≡ bears n v
          at_all v true q = let t : bears n v ≡ true = ap (bears n) (eqb-true v (number n) q) ∙ e in rw t
          at_all v false q = other v (eqb-false v (number n) q)
      go false e =
          rw (count_one_more top (bears n) (bears (suc n)) (number n) h e (ap (λ b. bears n (number n) || b) (eq-eqb (number n) (number n) refl) ∙ rw e) other) (omega arith)

  pub different_and_repeated : (top n : ℕ) → ((i : ℕ) → i < n → number i < top) → count (bears n) top + count (λ i. bears i (number i)) n ≡ n
  unfolding some
  different_and_repeated top zero h = rw (count_none top)
  different_and_repeated top (suc n) h =
      let rest = different_and_repeated top n (λ i l. h i (omega arith)) in
      let more = different_more top n (h n (omega arith)) in
      omega arith

  -- above all numbers
  unfoldable pub ceiling : ℕ → ℕ
  ceiling zero = 1
  ceiling (suc n) = ceiling n + number n

  pub below-ceiling : (n i : ℕ) → i < n → number i < ceiling n
  unfolding ceiling
  below-ceiling zero i h = absurd (not-suc-le-zero h)
  below-ceiling (suc n) i h = extend {Q = λ j. number j < ceiling n + number n} n (let p = positive n in omega arith) (λ j l. let q = below-ceiling n j l in omega arith) i h
    where
      positive : (n : ℕ) → 0 < ceiling n
      positive zero = omega arith
      positive (suc n) = let p = positive n in omega arith

pub count_small : (t : ℕ → Bool) (n : ℕ) → count t n ≤ n
count_small t zero = omega arith
count_small t (suc n) = omega (arith, count_small t n, one (t n))
  where
    one : (b : Bool) → cond b 1 0 ≤ 1
    one true = omega arith
    one false = omega arith
