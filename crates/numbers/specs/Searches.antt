-- What a search by a test of each index answers, where P i b says that the test of index i may answer b.
use Rattle.std.specs.Prelude.{ℕ, ◌<◌, Bool, true, false, Option, Some, None}

abbrev pub first_by : (ℕ → Bool → Type 0) → ℕ → Option ℕ → Type 0
first_by P n (Some i) = (i < n) × P i true × ((j : ℕ) → j < i → P j false)
first_by P n None = (j : ℕ) → j < n → P j false

abbrev pub some_by : (ℕ → Bool → Type 0) → ℕ → Bool → Type 0
some_by P n true = (i : ℕ) × (i < n) × P i true
some_by P n false = (j : ℕ) → j < n → P j false

-- the first index below n that passes, or that none does
pub record IsFirst (P : ℕ → Bool → Type 0) (n : ℕ) (o : Option ℕ) : Type 0 where
  pub first : first_by P n o

-- whether some index below n passes
pub record TellsSome (P : ℕ → Bool → Type 0) (n : ℕ) (b : Bool) : Type 0 where
  pub some : some_by P n b
