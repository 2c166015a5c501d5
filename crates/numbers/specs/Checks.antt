-- Checks over records, in their order. Each has a number, says in words what is wrong with the record with index i, and has a test for it.
use Rattle.std.specs.Prelude.{ℕ, ◌<◌, Bool, ◌⊎◌, List, [], ◌∷◌, ◌++◌, map, Option}
use Rattle.std.proofs.Common.{inl, inr, ⊎_elim}
use Rattle.numbers.specs.Folds.{first}
use Rattle.numbers.specs.Order.{Decides, Clear, FindsAt, FindsNone, decision, sought, found, Decision}
use Rattle.numbers.specs.declared.wanted.Wanted.{Wanted}

pub record Check : Type 1 where
  pub number : ℕ
  pub Condition : ℕ → Type 0
  pub test : ℕ → Bool

-- checks by their names, how many records each looks at, and the order in which they run
pub record Checks : Type 1 where
  pub Name : Type 0
  pub check : Name → Check
  pub size : Name → ℕ
  pub order : List Name

-- one check of a thing as a whole, which has the index 0
abbrev pub only : Check → Checks
only c = record { Name = Unit {0}; check = λ n. c; size = λ n. 1; order = tt ∷ [] }

-- first those of a, then those of b
infixr 5 ◌before◌
abbrev pub ◌before◌ : Checks → Checks → Checks
a before b =
    record {
      Name = a.Name ⊎ b.Name;
      check = ⊎_elim a.check b.check;
      size = ⊎_elim a.size b.size;
      order = map inl a.order ++ map inr b.order;
    }

module _ (cs : Checks) where
  abbrev pub number_of : cs.Name → ℕ
  number_of c = (cs.check c).number

  -- the condition of a check holds at the record with index i
  abbrev pub HoldsAt : cs.Name → ℕ → Type 0
  HoldsAt c i = (i < cs.size c) × (cs.check c).Condition i

  -- Check k refuses at record i: its condition holds there and at no record before it, and no condition of a check that stands before it in
  -- the order holds at any record.
  abbrev pub Refuses : ℕ → ℕ → Type 0
  Refuses k i = Decides number_of HoldsAt cs.order k i

  -- No condition of any check holds at any record.
  abbrev pub Passes : Type 0
  Passes = Clear HoldsAt cs.order

  -- Check k finds record i: its condition holds there and at no record before it, whatever the other checks say.
  abbrev pub FindsFirst : ℕ → ℕ → Type 0
  FindsFirst k i = FindsAt number_of HoldsAt cs.order k i

  -- The condition of check k holds at no record.
  abbrev pub FindsNothing : ℕ → Type 0
  FindsNothing k = FindsNone number_of HoldsAt cs.order k

  -- the first record that fails a check
  abbrev pub finding_of : cs.Name → Option ℕ
  finding_of c = first (cs.check c).test (cs.size c)

  -- the first check that finds a record decides
  unfoldable pub decision_of : Decision
  decision_of = decision number_of finding_of cs.order

  -- of those that are looked at
  unfoldable pub decision_for : Wanted → Decision
  decision_for w = decision number_of (λ c. sought w (number_of c) (finding_of c)) cs.order

  -- what check k finds by itself
  unfoldable pub finding_by : ℕ → Option ℕ
  finding_by k = found number_of finding_of k cs.order
