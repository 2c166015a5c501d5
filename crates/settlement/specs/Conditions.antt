-- Why a settlement is turned away: the checks over the file, 1 to 13 and 16, and then 14.
use Rattle.std.specs.Prelude.{List, ℕ, ◌<◌, ltb, length}
use Rattle.numbers.specs.Checks.{Check, Checks, only, ◌before◌, Refuses, Passes}
use Rattle.dayfile.specs.Limits.{Limits}
use Rattle.dayfile.specs.Records.{Lists}
use Rattle.dayfile.specs.Layout.{lists_of_file}
use Rattle.checks.specs.Judging.{file_checks}

-- 14: the amounts slice has fewer than N places
abbrev pub room_check : Lists → ℕ → Check
room_check ls places =
    record { number = 14; Condition = λ i. places < length ls.positions; test = λ i. ltb places (length ls.positions) }

-- all checks of a settlement, in their order
abbrev pub settlement_checks : Limits → List ℕ → ℕ → Checks
settlement_checks l f places = file_checks l f before only (room_check (lists_of_file f) places)

-- Check k turns the file away at the record i: its condition holds there and at no record before it, and no condition of a check
-- that stands before it in the order holds at any record.
abbrev pub TurnedAway : Limits → List ℕ → ℕ → ℕ → ℕ → Type 0
TurnedAway l f places k i = Refuses (settlement_checks l f places) k i

-- No condition of any check holds at any record.
abbrev pub NotTurnedAway : Limits → List ℕ → ℕ → Type 0
NotTurnedAway l f places = Passes (settlement_checks l f places)
