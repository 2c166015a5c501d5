-- Why a file is not made: 2 and 3 of the three lists, then the checks over their records, then 17.
use Rattle.std.specs.Prelude.{not, ◌||◌, List, ◌⊎◌, ℕ, ◌%◌, ◌<◌, ltb, eqb, length}
use Rattle.std.specs.Int.{◌∣◌}
use Rattle.numbers.specs.Checks.{Check, Checks, only, ◌before◌, Refuses, Passes}
use Rattle.dayfile.specs.Limits.{Limits}
use Rattle.dayfile.specs.Records.{mark_size, correction_size, position_size, lists_of}
use Rattle.dayfile.specs.Making.{made_of}
use Rattle.checks.specs.Judging.{record_checks, too_many_records}

module _ (ms cs ps : List ℕ) where
  -- 3: a list is not whole records
  abbrev pub broken_list : Check
  broken_list =
      record {
        number = 3;
        Condition = λ i. ¬ (mark_size ∣ length ms) ⊎ ¬ (correction_size ∣ length cs) ⊎ ¬ (position_size ∣ length ps);
        test = λ i.
            not (eqb (length ms % mark_size) 0) || not (eqb (length cs % correction_size) 0) || not (eqb (length ps % position_size) 0);
      }

  -- 17: the lent buffer is shorter than the file
  abbrev pub room_check : ℕ → Check
  room_check room =
      record { number = 17; Condition = λ i. room < length (made_of ms cs ps); test = λ i. ltb room (length (made_of ms cs ps)) }

  -- all checks of the maker, in their order: 2, 3, 4 to 13, 16, 17
  abbrev pub making_checks : Limits → ℕ → Checks
  making_checks l room =
      only (too_many_records l (lists_of ms cs ps)) before only broken_list before record_checks (lists_of ms cs ps) before only (room_check room)

  -- Check k refuses to make a file at the record i: its condition holds there and at no record before it, and no condition of a check that
  -- stands before it in the order holds at any record.
  abbrev pub NotMade : Limits → ℕ → ℕ → ℕ → Type 0
  NotMade l room k i = Refuses (making_checks l room) k i

  -- No condition of any check holds at any record.
  abbrev pub CanBeMade : Limits → ℕ → Type 0
  CanBeMade l room = Passes (making_checks l room)
