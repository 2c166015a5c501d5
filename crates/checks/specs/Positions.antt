-- The checks over the positions, given the marks: 12, 13 and 16.
use Rattle.std.specs.Prelude.{◌≡◌, ℕ, ◌<◌, ◌≤◌, Bool, ◌&&◌, ◌||◌, ◌⊎◌, List, [], ◌∷◌, length, ℤ, pos, neg_ℤ, ◌<ℤ◌, ◌==◌, int_lt, nat_lt}
use Rattle.numbers.specs.Integers.{is_zero}
use Rattle.numbers.specs.Folds.{repeating}
use Rattle.numbers.specs.Checks.{Check, Checks, only, ◌before◌}
use Rattle.dayfile.specs.Limits.{Limits, lots_limit}
use Rattle.dayfile.specs.Records.{position_at}
use Rattle.dayfile.specs.declared.records.Mark.{Mark}
use Rattle.dayfile.specs.declared.records.Position.{Position}
use Rattle.checks.specs.Marks.{no_mark}

-- the test of a position's lots
abbrev pub bad_lots : ℤ → Bool
bad_lots z = is_zero z || int_lt z (neg_ℤ (pos lots_limit)) || int_lt (pos lots_limit) z

-- two positions agree in account and mark, whatever their lots
abbrev pub SameHolding : Position → Position → Type 0
SameHolding p o = (p.account ≡ o.account) × (p.mark ≡ o.mark)

abbrev pub same_holding : Position → Position → Bool
same_holding p o = p.account == o.account && p.mark == o.mark

abbrev pub holding_pair : List Position → ℕ → ℕ → Bool
holding_pair ps i k = same_holding (position_at ps i) (position_at ps k)

-- ---- the checks

pub data PositionCheck : Type 0 where
  PositionMark : PositionCheck
  PositionLots : PositionCheck
  PositionRepeated : PositionCheck

module _ (ms : List Mark) (ps : List Position) where
  abbrev pub position_check : PositionCheck → Check
  -- 12: a position names no mark
  position_check PositionMark =
      record {
        number = 12;
        Condition = λ i. length ms ≤ (position_at ps i).mark;
        test = λ i. no_mark ms (position_at ps i).mark;
      }
  -- 13: a position's lots are 0, below −1,000,000 or above 1,000,000
  position_check PositionLots =
      record {
        number = 13;
        Condition = λ i. let z = (position_at ps i).lots in (z ≡ pos 0) ⊎ (z <ℤ neg_ℤ (pos lots_limit)) ⊎ (pos lots_limit <ℤ z);
        test = λ i. bad_lots (position_at ps i).lots;
      }
  -- 16: a position agrees with an earlier one in account and mark
  position_check PositionRepeated =
      record {
        number = 16;
        Condition = λ i. (j : ℕ) × (j < i) × SameHolding (position_at ps i) (position_at ps j);
        test = repeating (holding_pair ps);
      }

  abbrev pub position_checks : Checks
  position_checks =
      record {
        Name = PositionCheck;
        check = position_check;
        size = λ c. length ps;
        order = PositionMark ∷ PositionLots ∷ PositionRepeated ∷ [];
      }

-- the same of a list that stands in no file: 2 where a file may not have as many marks or positions, before the others
module _ (l : Limits) (ms : List Mark) (ps : List Position) where
  abbrev pub too_many_positions : Check
  too_many_positions =
      record {
        number = 2;
        Condition = λ i. (l.marks < length ms) ⊎ (l.positions < length ps);
        test = λ i. nat_lt l.marks (length ms) || nat_lt l.positions (length ps);
      }

  abbrev pub position_list_checks : Checks
  position_list_checks = only too_many_positions before position_checks ms ps
