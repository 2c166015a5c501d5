-- Searches, counts and sums over the indices below n, and lists filled by index.
use Rattle.std.specs.Prelude.{◌≡◌, ℕ, zero, suc, ◌+◌, ◌<◌, Bool, false, cond, ◌||◌, List, [], ◌∷◌, ◌++◌, drop, ℤ, pos, ◌+ℤ◌, slice_index_or, Option, Some, None}

-- what was found first
abbrev pub or_else : Option ℕ → Option ℕ → Option ℕ
or_else (Some i) o = Some i
or_else None o = o

-- the first index below n that passes a test
unfoldable pub first : (ℕ → Bool) → ℕ → Option ℕ
first t zero = None
first t (suc n) = or_else (first t n) (cond (t n) (Some n) None)

-- one more than the last index below n that passes a test, 0 where none does
unfoldable pub last : (ℕ → Bool) → ℕ → ℕ
last t zero = 0
last t (suc n) = cond (t n) (suc n) (last t n)

-- some index below n passes a test
unfoldable pub some : (ℕ → Bool) → ℕ → Bool
some t zero = false
some t (suc n) = some t n || t n

-- index i makes a pair with an earlier one
abbrev pub repeating : (ℕ → ℕ → Bool) → ℕ → Bool
repeating pair i = some (pair i) i

-- how many indices below n pass a test
abbrev pub count : (ℕ → Bool) → ℕ → ℕ
count t zero = 0
count t (suc n) = count t n + cond (t n) 1 0

-- the sum of f 0 .. f (n - 1)
abbrev pub sum : (ℕ → ℤ) → ℕ → ℤ
sum f zero = pos 0
sum f (suc n) = sum f n +ℤ f n

-- f 0 .. f (n - 1)
abbrev pub table : {A : Type 0} → (ℕ → A) → ℕ → List A
table f zero = []
table f (suc n) = table f n ++ (f n ∷ [])

-- a list with f 0 .. f (n - 1) in its first n places
abbrev pub front : {A : Type 0} → (ℕ → A) → List A → ℕ → List A
front f a n = table f n ++ drop n a

-- a list has f 0 .. f (n - 1) in its first n places; d is read past its end
pub record Filled {A : Type 0} (d : A) (f : ℕ → A) (n : ℕ) (r : List A) : Type 0 where
  pub entry : (i : ℕ) → i < n → slice_index_or r i d ≡ f i
