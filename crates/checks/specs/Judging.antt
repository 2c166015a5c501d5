-- What the checks say of three lists of records, and checks 1 to 13 and 16 of a whole file.
use Rattle.std.specs.Prelude.{Result, Ok, Err, ℕ, ◌<◌, ◌||◌, ◌⊎◌, List, length, nat_lt}
use Rattle.numbers.specs.Checks.{Check, Checks, only, ◌before◌, decision_of}
use Rattle.dayfile.specs.Limits.{Limits}
use Rattle.dayfile.specs.Records.{Lists, lists_of}
use Rattle.dayfile.specs.Layout.{counts_of, lists_of_file}
use Rattle.dayfile.specs.Opening.{header_checks}
use Rattle.dayfile.specs.declared.file.DayFile.{DayFile}
use Rattle.faults.specs.Faults.{number_of}
use Rattle.faults.specs.declared.refusal.Refusal.{Refusal}
use Rattle.checks.specs.declared.judging.PassedFile.{PassedFile}
use Rattle.checks.specs.declared.lists.Records.{Records}
use Rattle.checks.specs.Marks.{mark_checks}
use Rattle.checks.specs.Corrections.{correction_checks, resent_of}
use Rattle.checks.specs.Positions.{position_checks}
use Rattle.numbers.specs.Order.{Decision, Met, Unmet}

-- three lists by their bytes
abbrev pub lists_of_records : Records → Lists
lists_of_records r = lists_of r.marks.now r.corrections.now r.positions.now

-- the checks over the records of three lists: 4 to 13 and 16
abbrev pub record_checks : Lists → Checks
record_checks ls =
    mark_checks ls.marks before correction_checks ls.marks ls.corrections before position_checks ls.marks ls.positions

-- the same of lists that stand in no file: 2 where a file may not have as many marks, corrections or positions, before the others
module _ (l : Limits) (ls : Lists) where
  abbrev pub too_many_records : Check
  too_many_records =
      record {
        number = 2;
        Condition = λ i.
            (l.marks < length ls.marks) ⊎ (l.corrections < length ls.corrections) ⊎ (l.positions < length ls.positions);
        test = λ i.
            nat_lt l.marks (length ls.marks) || nat_lt l.corrections (length ls.corrections)
            || nat_lt l.positions (length ls.positions);
      }

  abbrev pub list_checks : Checks
  list_checks = only too_many_records before record_checks ls

-- those over a file: 1 to 13 and 16
abbrev pub file_checks : Limits → List ℕ → Checks
file_checks l f = header_checks l f before record_checks (lists_of_file f)

-- a file's counts and its resent count, or a check's number and a record's index
pub data Judged : Type 0 where
  Passed : DayFile → ℕ → Judged
  Refused : ℕ → ℕ → Judged

-- what an answer of the code says
abbrev pub judged : Result PassedFile Refusal → Judged
judged (Ok p) = Passed p.counts p.resent
judged (Err r) = Refused (number_of r.fault) r.index

abbrev pub judged_by : DayFile → ℕ → Decision → Judged
judged_by counts resent (Met k i) = Refused k i
judged_by counts resent Unmet = Passed counts resent

-- the number and the record that refuse a file, or the counts of its header and its resent count
unfoldable pub judged_of : Limits → List ℕ → Judged
judged_of l f = judged_by (counts_of f) (resent_of (lists_of_file f).corrections) (decision_of (file_checks l f))
