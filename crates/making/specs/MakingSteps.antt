-- How the code goes from three lists to the file. No contract of a function that is open to callers rests on this.
use Rattle.std.specs.Prelude.{Result, Ok, Err, cond, List, ℕ, ltb}
use Rattle.numbers.specs.Checks.{decision_of}
use Rattle.faults.specs.Faults.{number_of}
use Rattle.faults.specs.declared.refusal.Refusal.{Refusal}
use Rattle.dayfile.specs.Limits.{Limits}
use Rattle.dayfile.specs.Layout.{length_of}
use Rattle.dayfile.specs.Making.{counts_in}
use Rattle.dayfile.specs.declared.file.DayFile.{DayFile}
use Rattle.making.specs.Conditions.{making_checks}
use Rattle.numbers.specs.Order.{Decision, Met, Unmet}

-- the counts of the file to make, or a check's number and a record's index
pub data Plan : Type 0 where
  File : DayFile → Plan
  Refused : ℕ → ℕ → Plan

-- what an answer of the code says
abbrev pub planned : Result DayFile Refusal → Plan
planned (Ok d) = File d
planned (Err r) = Refused (number_of r.fault) r.index

-- 17, of a file with these counts
abbrev pub room_plan : DayFile → ℕ → Plan
room_plan d room = cond (ltb room (length_of d)) (Refused 17 0) (File d)

abbrev pub plan_by : DayFile → Decision → Plan
plan_by d (Met k i) = Refused k i
plan_by d Unmet = File d

-- the counts of the file to make, or the refusal
unfoldable pub plan_of : Limits → List ℕ → List ℕ → List ℕ → ℕ → Plan
plan_of l ms cs ps room = plan_by (counts_in ms cs ps) (decision_of (making_checks ms cs ps l room))
