-- The settlement of a day file.
use Rattle.std.specs.Prelude.{Result, Ok, Err, ℕ, cond, List, eqb, ℤ, pos, ◌*ℤ◌, length}
use Rattle.products.specs.declared.table.Currency.{Currency}
use Rattle.products.specs.declared.table.Currency.TheVariants.{Aud, Nzd}
use Rattle.products.specs.Products.{currency_of}
use Rattle.numbers.specs.Folds.{front, sum}
use Rattle.dayfile.specs.Limits.{Limits}
use Rattle.dayfile.specs.Records.{Lists, mark_at, position_at}
use Rattle.checks.specs.Corrections.{resent_of}
use Rattle.checks.specs.Judging.{judged_of}
use Rattle.checks.specs.Judging.{Judged}
use Rattle.checks.specs.Judging as judged
use Rattle.dayfile.specs.Layout.{lists_in, lists_of_file}
use Rattle.settlement.specs.Conditions.{room_check}
use Rattle.faults.specs.Faults.{number_of}
use Rattle.faults.specs.declared.refusal.Refusal.{Refusal}
use Rattle.settlement.specs.declared.settling.Settled.{Settled}
use Rattle.settlement.specs.Prices.{final_of, change_of}
use Rattle.dayfile.specs.declared.records.Mark.{Mark}
use Rattle.dayfile.specs.declared.records.Position.{Position}

-- x where a currency is the wanted one, else 0
abbrev pub keep_of : Currency → Currency → ℤ → ℤ
keep_of Aud Aud x = x
keep_of Aud Nzd x = pos 0
keep_of Nzd Aud x = pos 0
keep_of Nzd Nzd x = x

-- lots times the change in value of the position's mark; `change` gives each mark's change
unfoldable pub amount_of : List Position → (ℕ → ℤ) → ℕ → ℤ
amount_of ps change i = (position_at ps i).lots *ℤ change (position_at ps i).mark

-- the net lots of a mark
abbrev pub net_of : List Position → ℕ → ℤ
net_of ps m = sum (λ i. cond (eqb (position_at ps i).mark m) (position_at ps i).lots (pos 0)) (length ps)

module _ (ms : List Mark) (ps : List Position) (change : ℕ → ℤ) where
  -- a position's amount, if its currency is the wanted one
  unfoldable pub share_of : Currency → ℕ → ℤ
  share_of wanted i = keep_of wanted (currency_of (mark_at ms (position_at ps i).mark).code) (amount_of ps change i)

  -- the sum of a currency's amounts
  abbrev pub sum_of_amounts : Currency → ℤ
  sum_of_amounts wanted = sum (share_of wanted) (length ps)

  -- a currency's total: the sum over its marks of net lots times the change in value
  unfoldable pub total_of : Currency → ℤ
  total_of wanted = sum (λ m. keep_of wanted (currency_of (mark_at ms m).code) (net_of ps m *ℤ change m)) (length ms)

-- each mark's change, of three lists
abbrev pub change_in : Lists → ℕ → ℤ
change_in ls = change_of ls.marks (final_of ls.marks ls.corrections)

-- a position of a file, its mark, and its two settlement prices
abbrev pub position_in : List ℕ → ℕ → Position
position_in f i = position_at (lists_of_file f).positions i

abbrev pub mark_in : List ℕ → ℕ → Mark
mark_in f i = mark_at (lists_of_file f).marks (position_in f i).mark

abbrev pub previous_in : List ℕ → ℕ → ℕ
previous_in f i = (mark_in f i).previous

abbrev pub final_in : List ℕ → ℕ → ℕ
final_in f i = final_of (lists_of_file f).marks (lists_of_file f).corrections (position_in f i).mark

-- the answer of a settlement: the count, the totals in Australian and New Zealand cents, the resent count;
-- or a check's number and a record's index
pub data Answer : Type 0 where
  settled : ℕ → ℤ → ℤ → ℕ → Answer
  refused : ℕ → ℕ → Answer

-- what an answer of the code says
abbrev pub said : Result Settled Refusal → Answer
said (Ok s) = settled s.positions s.aud.0 s.nzd.0 s.resent
said (Err r) = refused (number_of r.fault) r.index

-- the amounts of three lists that pass, in the first places of the slice
abbrev pub paid : Lists → List ℤ → List ℤ
paid ls a = front (amount_of ls.positions (change_in ls)) a (length ls.positions)

abbrev pub totals : Lists → Answer
totals ls =
    settled (length ls.positions) (total_of ls.marks ls.positions (change_in ls) Aud)
    (total_of ls.marks ls.positions (change_in ls) Nzd) (resent_of ls.corrections)

-- what is to be done with three lists
pub data Plan : Type 0 where
  accept : Lists → Plan
  refuse : ℕ → ℕ → Plan

-- check 14, after the others
abbrev pub room_plan : Lists → ℕ → Plan
room_plan ls places = cond ((room_check ls places).test 0) (refuse (room_check ls places).number 0) (accept ls)

abbrev pub judged_plan : List ℕ → ℕ → Judged → Plan
judged_plan f places (judged.Refused k i) = refuse k i
judged_plan f places (judged.Passed counts resent) = room_plan (lists_in f counts) places

-- what is to be done with a file, for a slice of so many places
unfoldable pub plan_of : Limits → List ℕ → ℕ → Plan
plan_of l f places = judged_plan f places (judged_of l f)

abbrev pub answer_by : Plan → Answer
answer_by (refuse k i) = refused k i
answer_by (accept ls) = totals ls

abbrev pub paid_by : Plan → List ℤ → List ℤ
paid_by (refuse k i) a = a
paid_by (accept ls) a = paid ls a

-- the answer to a file, and the slice after it
unfoldable pub answer_of : Limits → List ℕ → ℕ → Answer
answer_of l f places = answer_by (plan_of l f places)

unfoldable pub amounts_after : Limits → List ℕ → List ℤ → List ℤ
amounts_after l f a = paid_by (plan_of l f (length a)) a
