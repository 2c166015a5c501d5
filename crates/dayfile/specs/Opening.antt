-- Checks 1 to 3, over a file's header and its length.
use Rattle.std.specs.Prelude.{Result, Ok, Err, Bool, true, false, cond, not, ◌&&◌, List, [], ◌∷◌, ◌⊎◌, ◌≢◌, ℕ, ◌<◌, leb, ltb, eqb, length, Some, None}
use Rattle.numbers.specs.Bytes.{u32_at}
use Rattle.numbers.specs.Order.{or_found, sought, Decision, Met, Unmet}
use Rattle.numbers.specs.Checks.{Check, Checks, only, decision_of, decision_for}
use Rattle.numbers.specs.declared.wanted.Wanted.{Wanted}
use Rattle.faults.specs.Faults.{number_of}
use Rattle.faults.specs.declared.fault.Fault.{Fault}
use Rattle.dayfile.specs.Limits.{Limits}
use Rattle.dayfile.specs.Layout.{header_size, counts_of, corrections_start, positions_start, length_of}
use Rattle.dayfile.specs.declared.file.DayFile.{DayFile}

abbrev pub within_limits : Limits → DayFile → Bool
within_limits l d = leb d.marks l.marks && leb d.corrections l.corrections && leb d.positions l.positions

abbrev pub as_laid_out : List ℕ → DayFile → Bool
as_laid_out f d =
    eqb (u32_at f 4) header_size && eqb (u32_at f 12) (corrections_start d)
    && eqb (u32_at f 20) (positions_start d) && eqb (length f) (length_of d)

pub data HeaderCheck : Type 0 where
  Short : HeaderCheck
  Counts : HeaderCheck
  Layout : HeaderCheck

module _ (l : Limits) (f : List ℕ) where
  abbrev pub header_check : HeaderCheck → Check
  -- 1: the file is shorter than 24 bytes
  header_check Short = record { number = 1; Condition = λ i. length f < header_size; test = λ i. ltb (length f) header_size }
  -- 2: a count is above its limit
  header_check Counts =
      record {
        number = 2;
        Condition = λ i.
            (l.marks < (counts_of f).marks) ⊎ (l.corrections < (counts_of f).corrections) ⊎ (l.positions < (counts_of f).positions);
        test = λ i. not (within_limits l (counts_of f));
      }
  -- 3: an offset or the file's length differs from the layout
  header_check Layout =
      record {
        number = 3;
        Condition =
            λ i. (u32_at f 4 ≢ header_size) ⊎ (u32_at f 12 ≢ corrections_start (counts_of f)) ⊎ (u32_at f 20 ≢ positions_start (counts_of f))
            ⊎ (length f ≢ length_of (counts_of f));
        test = λ i. not (as_laid_out f (counts_of f));
      }

  -- they look at the file as one record, so that the index is 0
  abbrev pub header_checks : Checks
  header_checks = record { Name = HeaderCheck; check = header_check; size = λ c. 1; order = Short ∷ Counts ∷ Layout ∷ [] }

-- the file's counts, or the number of the check that it fails
pub data Opened : Type 0 where
  File : DayFile → Opened
  Refused : ℕ → Opened

-- what an answer of the code says
abbrev pub opened : Result DayFile Fault → Opened
opened (Ok d) = File d
opened (Err fault) = Refused (number_of fault)

abbrev pub opened_by : List ℕ → Decision → Opened
opened_by f (Met k i) = Refused k
opened_by f Unmet = File (counts_of f)

-- the file's counts, or the number of the check that refuses it
unfoldable pub opened_of : Limits → List ℕ → Opened
opened_of l f = opened_by f (decision_of (header_checks l f))

-- ---- each check by itself

-- what is looked at of the header: of a file that is shorter, its length alone
abbrev pub looked_at : Limits → List ℕ → Bool → Checks
looked_at l f true = only (header_check l f Short)
looked_at l f false = header_checks l f

-- what is decided there by the checks that are looked at
unfoldable pub header_decision : Limits → List ℕ → Wanted → Decision
header_decision l f w = decision_for (looked_at l f (ltb (length f) header_size)) w

-- by the three tests
abbrev pub decided_by_tests : Bool → Bool → Bool → Wanted → Decision
decided_by_tests short above broken w =
    or_found (or_found (or_found Unmet 1 (sought w 1 (cond short (Some 0) None))) 2 (sought w 2 (cond above (Some 0) None))) 3
    (sought w 3 (cond broken (Some 0) None))

-- the counts of a header that stands whole and is within the limits, or the number of the check that says otherwise
unfoldable pub counted_of : Limits → List ℕ → Opened
counted_of l f = cond (ltb (length f) header_size) (Refused 1) (cond (within_limits l (counts_of f)) (File (counts_of f)) (Refused 2))
