-- Numbered conditions in an order, each about records by their index: which of them decides.
use Rattle.std.specs.Prelude.{◌≡◌, ℕ, ◌<◌, Bool, true, cond, List, [], ◌∷◌, ◌++◌, ◌==◌, Option, Some, None}
use mathlib.Core.List.{Memᴰ}
use Rattle.numbers.specs.Folds.{or_else}
use Rattle.numbers.specs.declared.wanted.Wanted.{Wanted}
use Rattle.numbers.specs.declared.wanted.Wanted.TheVariants.{All, One}

module _ {R : Type 0} (number : R → ℕ) (Holds : R → ℕ → Type 0) where
  -- The condition with the number k decides at record i: it holds there and at no record before it, and no condition that stands before
  -- it in the order holds at any record.
  pub record Decides (order : List R) (k i : ℕ) : Type 0 where
    pub condition : R
    pub numbered : number condition ≡ k
    pub earlier : List R
    pub later : List R
    pub ordered : order ≡ earlier ++ (condition ∷ later)
    pub none-earlier : (b : R) → Memᴰ b earlier → (j : ℕ) → ¬ (Holds b j)
    pub here : Holds condition i
    pub first : (j : ℕ) → j < i → ¬ (Holds condition j)

  -- The condition with the number k holds at record i, and at no record before it.
  pub record FindsAt (order : List R) (k i : ℕ) : Type 0 where
    pub condition : R
    pub listed : Memᴰ condition order
    pub numbered : number condition ≡ k
    pub here : Holds condition i
    pub first : (j : ℕ) → j < i → ¬ (Holds condition j)

  -- It holds at no record.
  pub record FindsNone (order : List R) (k : ℕ) : Type 0 where
    pub none : (c : R) → Memᴰ c order → number c ≡ k → (j : ℕ) → ¬ (Holds c j)

-- no condition of the order holds at any record
pub record Clear {R : Type 0} (Holds : R → ℕ → Type 0) (order : List R) : Type 0 where
  pub none : (b : R) → Memᴰ b order → (j : ℕ) → ¬ (Holds b j)

-- ---- the decision, by what each condition finds

-- the number of the condition that decides, with the index of the record that meets it first; or that no record meets any
pub data Decision : Type 0 where
  Met : ℕ → ℕ → Decision
  Unmet : Decision

-- what a condition with the number k found, or else what later ones decide
abbrev pub pick : Option ℕ → ℕ → Decision → Decision
pick (Some i) k d = Met k i
pick None k d = d

-- what is decided first
abbrev pub or_later : Decision → Decision → Decision
or_later (Met k i) d = Met k i
or_later Unmet d = d

-- what is decided so far, or else what a condition with the number k found
abbrev pub or_found : Decision → ℕ → Option ℕ → Decision
or_found (Met n i) k o = Met n i
or_found Unmet k o = pick o k Unmet

-- the first condition of the order that finds a record decides
abbrev pub decision : {R : Type 0} → (R → ℕ) → (R → Option ℕ) → List R → Decision
decision number finding [] = Unmet
decision number finding (c ∷ cs) = pick (finding c) (number c) (decision number finding cs)

-- ---- conditions that are looked at

-- whether the condition with the number n is looked at
abbrev pub takes : Wanted → ℕ → Bool
takes All n = true
takes (One k) n = k == n

-- what it found, if it is looked at
abbrev pub sought : Wanted → ℕ → Option ℕ → Option ℕ
sought w n o = cond (takes w n) o None

-- the record of a decision
abbrev pub found_in : Decision → Option ℕ
found_in (Met k i) = Some i
found_in Unmet = None

-- what is found by the condition with the number k
abbrev pub found : {R : Type 0} → (R → ℕ) → (R → Option ℕ) → ℕ → List R → Option ℕ
found number finding k [] = None
found number finding k (c ∷ cs) = or_else (cond (k == number c) (finding c) None) (found number finding k cs)
