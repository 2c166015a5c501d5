-- What is said of one mark of a file: its two settlement prices, the correction that decides, and its change in value.
use Rattle.std.specs.Prelude.{Result, Ok, Err, Option, Some, None, cond, List, ℕ, ℤ, length}
use Rattle.dayfile.specs.Limits.{Limits}
use Rattle.dayfile.specs.Records.{mark_at}
use Rattle.dayfile.specs.Layout.{lists_in}
use Rattle.checks.specs.Marks.{no_mark}
use Rattle.checks.specs.Judging.{judged_of}
use Rattle.checks.specs.Judging.{Judged}
use Rattle.checks.specs.Judging as judged
use Rattle.dayfile.specs.declared.records.Mark.{Mark}
use Rattle.dayfile.specs.declared.records.Correction.{Correction}
use Rattle.faults.specs.Faults.{number_of}
use Rattle.faults.specs.declared.refusal.Refusal.{Refusal}
use Rattle.settlement.specs.declared.one_mark.MarkPrices.{MarkPrices}
use Rattle.settlement.specs.Prices.{Highest, NoneYet, Numbered, highest_of, final_of, change_of}

-- the previous price, the final price, the correction that decides it, and the change in value of one contract;
-- or a check's number and an index
pub data MarkAnswer : Type 0 where
  priced : ℕ → ℕ → Highest → ℤ → MarkAnswer
  refused : ℕ → ℕ → MarkAnswer

-- a correction's number and price, where there is one
abbrev pub highest_by : Option ℕ → ℕ → Highest
highest_by (Some number) price = Numbered number price
highest_by None price = NoneYet

-- what an answer of the code says: the price of the correction that decides is the final one
abbrev pub said : Result MarkPrices Refusal → MarkAnswer
said (Ok p) = priced p.previous p.last (highest_by p.corrected_by p.last) p.change
said (Err r) = refused (number_of r.fault) r.index

-- of marks and corrections that passed
abbrev pub priced_mark : List Mark → List Correction → ℕ → MarkAnswer
priced_mark ms cs m = priced (mark_at ms m).previous (final_of ms cs m) (highest_of cs m (length cs)) (change_of ms (final_of ms cs) m)

-- 12 where there is no mark with the index asked for
abbrev pub mark_answer_in : List Mark → List Correction → ℕ → MarkAnswer
mark_answer_in ms cs m = cond (no_mark ms m) (refused 12 m) (priced_mark ms cs m)

abbrev pub mark_answer_by : List ℕ → ℕ → Judged → MarkAnswer
mark_answer_by f m (judged.Refused k i) = refused k i
mark_answer_by f m (judged.Passed counts resent) = mark_answer_in (lists_in f counts).marks (lists_in f counts).corrections m

-- of a file: the refusal of a file that does not pass its checks comes first
unfoldable pub mark_answer_of : Limits → List ℕ → ℕ → MarkAnswer
mark_answer_of l f m = mark_answer_by f m (judged_of l f)

-- the correction of a mark that decides so far, as the code has it
abbrev pub highest_in : Option Correction → Highest
highest_in (Some c) = Numbered c.number c.price
highest_in None = NoneYet
