-- Lists of records' indices, and the first of the listed records that has the key of an earlier one. No statement of what the code answers
-- rests on this.
use Rattle.std.specs.Prelude.{◌≡◌, ℕ, ◌<◌, ◌≤◌, List, slice_index}

-- the entry at a place
abbrev pub at : List ℕ → ℕ → ℕ
at list u = slice_index list u

-- i is one of f 0 .. f (m - 1)
pub record Hit (f : ℕ → ℕ) (m i : ℕ) : Type 0 where
  pub place : ℕ
  pub below : place < m
  pub is : f place ≡ i

-- and so is a lower index with the same key
pub record Repeats (key f : ℕ → ℕ) (m i : ℕ) : Type 0 where
  pub listed : Hit f m i
  pub other : ℕ
  pub listed_too : Hit f m other
  pub lower : other < i
  pub same : key other ≡ key i

-- i is the lowest index that does so, or n where none does
pub record FirstOf (key f : ℕ → ℕ) (n m i : ℕ) : Type 0 where
  pub within : i ≤ n
  pub repeats : i < n → Repeats key f m i
  pub lowest : (j k : ℕ) → Hit f m j → Hit f m k → j < k → key j ≡ key k → i ≤ k

-- m indices below n, each above the one before
pub record Rising (n m : ℕ) (f : ℕ → ℕ) : Type 0 where
  pub below : (u : ℕ) → u < m → f u < n
  pub rising : (u v : ℕ) → u < v → v < m → f u < f v
