-- What the steps of the settlement ask of each other and give: arrays, sizes, and what was checked before.
use Rattle.std.specs.Prelude.{Result, ◌≡◌, ℕ, ◌*◌, ◌≤◌, ◌<◌, List, ℤ, pos, nat_abs, ◌+ℤ◌, length, get_or, replicate}
use Rattle.products.specs.declared.table.Currency.{Currency}
use Rattle.products.specs.declared.table.Currency.TheVariants.{Aud, Nzd}
use Rattle.numbers.specs.Folds.{front, sum}
use Rattle.numbers.specs.Integers.{entry_of}
use Rattle.dayfile.specs.Limits.{file_limits, lots_limit}
use Rattle.dayfile.specs.Records.{Lists, mark_at, position_at}
use Rattle.products.specs.Products.{currency_of}
use Rattle.numbers.specs.Checks.{decision_of}
use Rattle.checks.specs.Corrections.{resent_of}
use Rattle.checks.specs.Judging.{record_checks}
use Rattle.dayfile.specs.WithinLimits.{ListsWithinLimits}
use Rattle.settlement.specs.Prices.{change_of}
use Rattle.settlement.specs.Settling.{keep_of, amount_of, sum_of_amounts, said, Plan, answer_by, paid_by}
use Rattle.dayfile.specs.declared.records.Mark.{Mark}
use Rattle.dayfile.specs.declared.records.Position.{Position}
use Rattle.settlement.specs.declared.amounts.Sums.{Sums}
use Rattle.settlement.specs.declared.settling.Settled.{Settled}
use Rattle.faults.specs.declared.refusal.Refusal.{Refusal}
use Rattle.numbers.specs.Order.{Unmet}

-- no change in value is larger
abbrev pub change_cap : ℕ
change_cap = 1_000_000_000

-- no amount is larger than this, in cents, and no total
abbrev pub amount_cap : ℕ
amount_cap = lots_limit * change_cap

abbrev pub total_cap : ℕ
total_cap = file_limits.positions * amount_cap

-- a mark's price today
abbrev pub today_of : List Mark → ℕ → ℕ
today_of ms m = (mark_at ms m).today

-- an array's entries before any is filled in
unfoldable pub blank : List ℤ
blank = replicate file_limits.marks (pos 0)

-- the changes of all marks, in an array
abbrev pub changes_of : List Mark → (ℕ → ℕ) → List ℤ
changes_of ms final = front (change_of ms final) blank (length ms)

-- three lists within the file's limits, whose records passed
pub record ListsPass (ls : Lists) : Type 0 where
  pub lists_within : ListsWithinLimits ls
  pub passed : decision_of (record_checks ls) ≡ Unmet

-- and how many of the corrections were resent
pub record ListsPassWith (ls : Lists) (resent : ℕ) : Type 0 where
  pub lists_pass : ListsPass ls
  pub counted : resent ≡ resent_of ls.corrections

-- positions whose lots and marks are in range
pub record Payable (ps : List Position) : Type 0 where
  pub few : length ps ≤ file_limits.positions
  pub mark : (i : ℕ) → i < length ps → (position_at ps i).mark < file_limits.marks
  pub lots : (i : ℕ) → i < length ps → nat_abs (position_at ps i).lots ≤ lots_limit

-- positions whose marks are in the file
pub record Named (ms : List Mark) (ps : List Position) : Type 0 where
  pub few : length ms ≤ file_limits.marks
  pub mark : (i : ℕ) → i < length ps → (position_at ps i).mark < length ms

-- an array of changes in range
pub record Bounded (a : List ℤ) : Type 0 where
  pub entries : (m : ℕ) → nat_abs (get_or a m (pos 0)) ≤ change_cap

-- a mark's currency
abbrev pub currency_at : List Mark → ℕ → Currency
currency_at ms m = currency_of (mark_at ms m).code

-- a sum to which an amount may be added
pub record Addable (s x : ℤ) : Type 0 where
  pub total : nat_abs s ≤ total_cap
  pub amount : nat_abs x ≤ amount_cap

-- an amount more in one of two sums
pub record Adds (c : Currency) (x : ℤ) (s r : Sums) : Type 0 where
  pub aud : r.aud.0 ≡ s.aud.0 +ℤ keep_of Aud c x
  pub nzd : r.nzd.0 ≡ s.nzd.0 +ℤ keep_of Nzd c x

-- a position's amount, if its currency is the wanted one; an array says each mark's currency
unfoldable pub share_by : List Position → List ℤ → List Currency → Currency → ℕ → ℤ
share_by ps a currencies wanted i = keep_of wanted (get_or currencies (position_at ps i).mark Aud) (amount_of ps (entry_of a) i)

-- the amounts in the first places of a slice, and the sum of each currency's by that array
pub record PaysBy (ps : List Position) (a : List ℤ) (currencies : List Currency) (r : Sums) (before after : List ℤ) : Type 0 where
  pub written : after ≡ front (amount_of ps (entry_of a)) before (length ps)
  pub aud : r.aud.0 ≡ sum (share_by ps a currencies Aud) (length ps)
  pub nzd : r.nzd.0 ≡ sum (share_by ps a currencies Nzd) (length ps)

-- the amounts in the first places of a slice, and the sum of each currency's
pub record Pays (ms : List Mark) (ps : List Position) (a : List ℤ) (r : Sums) (before after : List ℤ) : Type 0 where
  pub written : after ≡ front (amount_of ps (entry_of a)) before (length ps)
  pub aud : r.aud.0 ≡ sum_of_amounts ms ps (entry_of a) Aud
  pub nzd : r.nzd.0 ≡ sum_of_amounts ms ps (entry_of a) Nzd

-- an answer and a slice that are what a plan says, of the slice before
pub record Settles (plan : Plan) (r : Result Settled Refusal) (before after : List ℤ) : Type 0 where
  pub answer : said r ≡ answer_by plan
  pub written : after ≡ paid_by plan before
