-- What the code finds wrong with each record by itself, and how it goes from record to record. No statement about a file rests on this.
use Rattle.std.specs.Prelude.{ℕ, zero, suc, ◌+◌, ◌*◌, ◌%◌, ◌≤◌, Bool, false, cond, not, ◌||◌, List, length, ◌==◌, nat_le, nat_lt, Option, Some, None}
use Rattle.numbers.specs.Folds.{first, last, some, Filled}
use Rattle.numbers.specs.Order.{pick, sought, Decision, Unmet}
use Rattle.numbers.specs.declared.wanted.Wanted.{Wanted}
use Rattle.products.specs.Products.{has_month}
use Rattle.products.specs.declared.table.Product.{Product}
use Rattle.dayfile.specs.Limits.{file_limits, year_limit, lots_limit}
use Rattle.dayfile.specs.Records.{mark_at, correction_at, position_at}
use Rattle.dayfile.specs.declared.records.Mark.{Mark}
use Rattle.dayfile.specs.declared.records.Correction.{Correction}
use Rattle.dayfile.specs.declared.records.Position.{Position}
use Rattle.dayfile.specs.declared.records.RawPosition.{RawPosition}
use Rattle.checks.specs.Table.{tick_of}
use Rattle.checks.specs.Marks.{no_mark, bad_code, bad_date, high_mark, off_tick_mark, mark_check, MarkCode, MarkDate, MarkLimit, MarkTick}
use Rattle.checks.specs.Corrections.{bad_price, number_pair, clash_pair, correction_check, CorrectionMark, CorrectionPrice}
use Rattle.checks.specs.Positions.{bad_lots, position_check, PositionMark, PositionLots}
use Rattle.checks.specs.declared.marks.MarkFaults.{MarkFaults}
use Rattle.checks.specs.declared.corrections.CorrectionFaults.{CorrectionFaults}
use Rattle.checks.specs.declared.positions.PositionFaults.{PositionFaults}

-- ---- what is wrong with one record

abbrev pub mark_faults : Mark → MarkFaults
mark_faults m = record { code = bad_code m; date = bad_date m; high = high_mark m; off = off_tick_mark m; tick = tick_of m.code }

abbrev pub correction_faults : List Mark → Correction → CorrectionFaults
correction_faults ms c = record { missing = no_mark ms c.mark; price = bad_price (mark_at ms c.mark) c.price }

-- a position, given how many marks there are
abbrev pub counted_faults : ℕ → Position → PositionFaults
counted_faults n p = record { missing = nat_le n p.mark; lots = bad_lots p.lots }

abbrev pub position_faults : List Mark → Position → PositionFaults
position_faults ms p = counted_faults (length ms) p

-- a mark of a product
abbrev pub faults_by : Product → Mark → MarkFaults
faults_by product m =
    record {
      code = false;
      date = not (has_month product m.month) || nat_lt year_limit m.year;
      high = high_mark m;
      off = not (m.previous % product.tick == 0) || not (m.today % product.tick == 0);
      tick = product.tick;
    }

-- a position as its bytes have it, given how many marks there are
abbrev pub raw_faults : ℕ → RawPosition → PositionFaults
raw_faults n w =
    let moved = (w.lots + lots_limit) % 4_294_967_296 in
    record { missing = nat_le n w.mark; lots = moved == lots_limit || nat_lt (2 * lots_limit) moved }

-- whether anything is
abbrev pub any_mark_fault : MarkFaults → Bool
any_mark_fault faults = faults.code || faults.date || faults.high || faults.off

abbrev pub any_correction_fault : CorrectionFaults → Bool
any_correction_fault faults = faults.missing || faults.price

abbrev pub any_position_fault : PositionFaults → Bool
any_position_fault faults = faults.missing || faults.lots

-- and with any record of a list
abbrev pub some_mark_fault : List Mark → Bool
some_mark_fault ms = some (λ i. any_mark_fault (mark_faults (mark_at ms i))) (length ms)

abbrev pub some_correction_fault : List Mark → List Correction → Bool
some_correction_fault ms cs = some (λ i. any_correction_fault (correction_faults ms (correction_at cs i))) (length cs)

abbrev pub some_position_fault : List Mark → List Position → Bool
some_position_fault ms ps = some (λ i. any_position_fault (position_faults ms (position_at ps i))) (length ps)

-- ---- the checks one after the other, those that are looked at, each by the first record that fails it

-- what check k says by what it found, or else what later ones say
abbrev pub or_next : Wanted → ℕ → Option ℕ → Decision → Decision
or_next w k found d = pick (sought w k found) k d

abbrev pub mark_decision : List Mark → Option ℕ → Wanted → Decision
mark_decision ms repeated w =
    let n = length ms in
    or_next w 4 (first (mark_check ms MarkCode).test n)
    (or_next w 5 (first (mark_check ms MarkDate).test n)
    (or_next w 6 (first (mark_check ms MarkLimit).test n)
    (or_next w 7 (first (mark_check ms MarkTick).test n) (or_next w 8 repeated Unmet))))

abbrev pub correction_decision : List Mark → List Correction → Option ℕ → Wanted → Decision
correction_decision ms cs clash w =
    let n = length cs in
    or_next w 9 (first (correction_check ms cs CorrectionMark).test n)
    (or_next w 10 (first (correction_check ms cs CorrectionPrice).test n) (or_next w 11 clash Unmet))

abbrev pub position_decision : List Mark → List Position → Option ℕ → Wanted → Decision
position_decision ms ps repeated w =
    let n = length ps in
    or_next w 12 (first (position_check ms ps PositionMark).test n)
    (or_next w 13 (first (position_check ms ps PositionLots).test n) (or_next w 16 repeated Unmet))

-- ---- arrays

-- an array has the ticks of the marks
abbrev pub tick_at : List Mark → ℕ → ℕ
tick_at ms m = tick_of (mark_at ms m).code

pub record Ticks (ms : List Mark) (a : List ℕ) : Type 0 where
  pub few : length ms ≤ file_limits.marks
  pub ticks : Filled 0 (tick_at ms) (length ms) a

-- the tick of a mark, where there is one
abbrev pub tick_from : List Mark → ℕ → Option ℕ
tick_from ms m = cond (nat_lt m (length ms)) (Some (tick_at ms m)) None

-- an array has for each correction the last earlier one with its number, as one more than its index
pub record Lasts (cs : List Correction) (a : List ℕ) : Type 0 where
  pub few : length cs ≤ file_limits.corrections
  pub lasts : Filled 0 (λ i. last (number_pair cs i) i) (length cs) a

-- correction i clashes with correction k − 1; it does not where k is 0
unfoldable pub clashes_below : List Correction → ℕ → ℕ → Bool
clashes_below cs i zero = false
clashes_below cs i (suc j) = clash_pair cs i j
