-- The checks over the marks: 4 to 8.
use Rattle.std.specs.Prelude.{◌≡◌, ℕ, ◌%◌, ◌<◌, Bool, not, ◌&&◌, ◌||◌, ◌⊎◌, List, [], ◌∷◌, length, ◌==◌, nat_le, nat_lt, Some}
use mathlib.Core.List.{Memᴰ}
use Rattle.std.specs.Int.{◌∣◌}
use Rattle.numbers.specs.Folds.{repeating}
use Rattle.numbers.specs.Checks.{Check, Checks, only, ◌before◌}
use Rattle.products.specs.Products.{price_limit, find, months_of, Unlisted}
use Rattle.products.specs.declared.table.Code.{Code}
use Rattle.products.specs.declared.table.Product.{Product}
use Rattle.dayfile.specs.Limits.{Limits, year_limit}
use Rattle.dayfile.specs.Records.{mark_at}
use Rattle.dayfile.specs.declared.records.Mark.{Mark}
use Rattle.checks.specs.Table.{above_limit, listed, code_has_month, tick_of}

-- ---- the words, and the test for each

-- the product table has the code, and the month is one of the product's
abbrev pub HasMonth : Code → ℕ → Type 0
HasMonth code month = (product : Product) × (find code ≡ Some product) × Memᴰ month (months_of product)

-- a price is not a multiple of the tick of a mark's product
abbrev pub OffTick : Mark → ℕ → Type 0
OffTick m p = (product : Product) × (find m.code ≡ Some product) × ¬ (product.tick ∣ p)

abbrev pub off_tick : Mark → ℕ → Bool
off_tick m p = not (p % tick_of m.code == 0)

-- there is no mark with this index
abbrev pub no_mark : List Mark → ℕ → Bool
no_mark ms k = nat_le (length ms) k

-- two marks agree in code, month and year
abbrev pub SameContract : Mark → Mark → Type 0
SameContract m n = (m.code ≡ n.code) × (m.month ≡ n.month) × (m.year ≡ n.year)

abbrev pub same_contract : Mark → Mark → Bool
same_contract m n = m.code.0 == n.code.0 && m.code.1 == n.code.1 && m.month == n.month && m.year == n.year

abbrev pub contract_pair : List Mark → ℕ → ℕ → Bool
contract_pair ms i k = same_contract (mark_at ms i) (mark_at ms k)

-- what is wrong with a mark by itself
abbrev pub bad_code : Mark → Bool
bad_code m = not (listed m.code)

abbrev pub bad_date : Mark → Bool
bad_date m = not (code_has_month m.code m.month) || nat_lt year_limit m.year

abbrev pub high_mark : Mark → Bool
high_mark m = above_limit m.previous || above_limit m.today

abbrev pub off_tick_mark : Mark → Bool
off_tick_mark m = off_tick m m.previous || off_tick m m.today

-- ---- the checks

pub data MarkCheck : Type 0 where
  MarkCode : MarkCheck
  MarkDate : MarkCheck
  MarkLimit : MarkCheck
  MarkTick : MarkCheck
  MarkRepeated : MarkCheck

module _ (ms : List Mark) where
  abbrev pub mark_check : MarkCheck → Check
  -- 4: a mark's code is not in the product table
  mark_check MarkCode = record { number = 4; Condition = λ i. Unlisted (mark_at ms i).code; test = λ i. bad_code (mark_at ms i) }
  -- 5: a mark's month is not one of its product's months, or its year is above 99
  mark_check MarkDate =
      record {
        number = 5;
        Condition = λ i. let m = mark_at ms i in ¬ (HasMonth m.code m.month) ⊎ (year_limit < m.year);
        test = λ i. bad_date (mark_at ms i);
      }
  -- 6: a mark's price is above 1,000,000
  mark_check MarkLimit =
      record {
        number = 6;
        Condition = λ i. let m = mark_at ms i in (price_limit < m.previous) ⊎ (price_limit < m.today);
        test = λ i. high_mark (mark_at ms i);
      }
  -- 7: a mark's price is not a multiple of its product's tick
  mark_check MarkTick =
      record {
        number = 7;
        Condition = λ i. let m = mark_at ms i in OffTick m m.previous ⊎ OffTick m m.today;
        test = λ i. off_tick_mark (mark_at ms i);
      }
  -- 8: a mark agrees with an earlier one in code, month and year
  mark_check MarkRepeated =
      record {
        number = 8;
        Condition = λ i. (j : ℕ) × (j < i) × SameContract (mark_at ms i) (mark_at ms j);
        test = repeating (contract_pair ms);
      }

  abbrev pub mark_checks : Checks
  mark_checks =
      record {
        Name = MarkCheck;
        check = mark_check;
        size = λ c. length ms;
        order = MarkCode ∷ MarkDate ∷ MarkLimit ∷ MarkTick ∷ MarkRepeated ∷ [];
      }

-- the same of a list that stands in no file: 2 where a file may not have as many marks, before the others
module _ (l : Limits) (ms : List Mark) where
  abbrev pub too_many_marks : Check
  too_many_marks = record { number = 2; Condition = λ i. l.marks < length ms; test = λ i. nat_lt l.marks (length ms) }

  abbrev pub mark_list_checks : Checks
  mark_list_checks = only too_many_marks before mark_checks ms
