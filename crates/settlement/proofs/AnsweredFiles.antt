-- Files for checks 2 to 13 and 16, and files just inside their bounds, answered by the definitions; from check 4 on the second record of a section
-- is the one that is looked at. Then what each check finds by itself.
use Rattle.std.proofs.Common.{Option, Some, None}
use mathlib.Core.Path.{◌≡◌, refl}
use mathlib.Core.List.{List, [], ◌∷◌, ◌++◌, map}
use Prim.Native.Nat.{ℕ}
use lib.IntN.{pos, negsuc}
use lib.ListN.{take}
use Rattle.numbers.specs.Rounding.{nearest}
use Rattle.numbers.specs.Bytes.{u32_at, signed, records_of, u32_bytes}
use Rattle.numbers.specs.Folds.{first, some}
use Rattle.products.specs.Products.{price_limit, IR, BB, IB, products, same_code, find_in, find, currency_of, has_month}
use Rattle.pricing.specs.Prices.{par, yield_at}
use Rattle.pricing.specs.Value.{bill_dividend, bill_divisor, value_by}
use Rattle.pricing.specs.Calls.{value_of}
use Rattle.dayfile.specs.Limits.{file_limits}
use Rattle.dayfile.specs.Records.{mark_at, correction_at, position_at}
use Rattle.dayfile.specs.Layout.{counts_of}
use Rattle.dayfile.specs.Making.{counts_in, entry_bytes, header_of, made_of}
use Rattle.checks.specs.Table.{listed, code_has_month, tick_of}
use Rattle.numbers.specs.Checks.{decision_of, finding_by}
use Rattle.checks.specs.Judging.{judged_of}
use Rattle.checks.specs.Finding.{found_of}
use Rattle.settlement.specs.ContractValue.{value_or_zero}
use Rattle.settlement.specs.Prices.{highest_of, final_of, change_of}
use Rattle.settlement.specs.Settling.{amount_of, total_of, Answer, settled, refused, plan_of, answer_of}
use Rattle.products.specs.declared.table.Code.{Code}

-- the bytes of a number, the lowest first
pub bytes_are : (u32_bytes 950100 ≡ 84 ∷ 127 ∷ 14 ∷ 0 ∷ []) × (u32_bytes 4294967292 ≡ 252 ∷ 255 ∷ 255 ∷ 255 ∷ [])
unfolding u32_bytes
bytes_are = (refl, refl)

-- a mark; and a correction, number, mark and price, or a position, account, mark and lots
abbrev mark_of : Code → ℕ → ℕ → ℕ → ℕ → List ℕ
mark_of a month year previous today = (a.0 ∷ a.1 ∷ month ∷ year ∷ []) ++ u32_bytes previous ++ u32_bytes today

abbrev three : ℕ → ℕ → ℕ → List ℕ
three a b c = u32_bytes a ++ u32_bytes b ++ u32_bytes c

-- a file of two records in each section, the second ones as given
abbrev pub file_of : List ℕ → List ℕ → List ℕ → List ℕ
file_of m c p = made_of (mark_of IR 3 18 950000 950200 ++ m) (three 7 0 950100 ++ c) (three 11 0 10 ++ p)

-- second records that pass; the lots are −4
abbrev m : List ℕ
m = mark_of BB 6 19 940000 940100

abbrev c : List ℕ
c = three 5 0 951000

abbrev p : List ℕ
p = three 12 1 4294967292

-- a file whose second position names no mark
abbrev pub no_mark : List ℕ
no_mark = file_of m c (three 12 2 4294967292)

-- a header of six numbers, and nothing after it
abbrev header : ℕ → ℕ → ℕ → ℕ → ℕ → ℕ → List ℕ
header a b c d e f = three a b c ++ three d e f

pub record Answered : Type 0 where
  pub file : List ℕ
  pub answer : Answer

infix 4 ◌answers◌
abbrev ◌answers◌ : List ℕ → Answer → Answered
f answers a = record { file = f; answer = a }

unfoldable pub files : List Answered
files =
    -- counts at their limits pass 2 and fail 3; one more fails 2; an offset that is not the layout's fails 3
    (header 256 24 512 24 4096 24 answers refused 3 0)
    ∷ (header 257 24 0 24 0 24 answers refused 2 0)
    ∷ (header 0 24 513 24 0 24 answers refused 2 0)
    ∷ (header 0 24 0 24 4097 24 answers refused 2 0)
    ∷ (header 0 25 0 24 0 24 answers refused 3 0)
    ∷ (header 0 24 0 25 0 24 answers refused 3 0)
    ∷ (header 0 24 0 24 0 25 answers refused 3 0)
    -- and a byte too many
    ∷ (file_of m c p ++ (0 ∷ []) answers refused 3 0)
    -- marks: the code, the month, the year, each price above the limit, each price off its tick, one contract twice
    ∷ (file_of (mark_of (66, 67) 6 19 940000 940100) c p answers refused 4 1)
    ∷ (file_of (mark_of BB 7 19 940000 940100) c p answers refused 5 1)
    ∷ (file_of (mark_of BB 6 100 940000 940100) c p answers refused 5 1)
    ∷ (file_of (mark_of BB 6 19 1000100 940100) c p answers refused 6 1)
    ∷ (file_of (mark_of BB 6 19 940000 1000100) c p answers refused 6 1)
    ∷ (file_of (mark_of BB 6 19 940050 940100) c p answers refused 7 1)
    ∷ (file_of (mark_of BB 6 19 940000 940150) c p answers refused 7 1)
    ∷ (file_of (mark_of IR 3 18 940000 940100) c p answers refused 8 1)
    -- corrections: no mark, a price above the limit or off its tick, one number with another mark or price
    ∷ (file_of m (three 5 2 951000) p answers refused 9 1)
    ∷ (file_of m (three 5 0 1000100) p answers refused 10 1)
    ∷ (file_of m (three 5 0 951050) p answers refused 10 1)
    ∷ (file_of (mark_of IB 3 18 940000 940050) (three 5 0 950050) p answers refused 10 1)
    ∷ (file_of m (three 7 1 950100) p answers refused 11 1)
    ∷ (file_of m (three 7 0 951000) p answers refused 11 1)
    -- positions: no mark, no lots, too many either way; an account twice in one mark, with the same lots, with others, and without any
    ∷ (no_mark answers refused 12 1)
    ∷ (file_of m c (three 12 1 0) answers refused 13 1)
    ∷ (file_of m c (three 12 1 1000001) answers refused 13 1)
    ∷ (file_of m c (three 12 1 4293967295) answers refused 13 1)
    ∷ (file_of m c (three 11 0 10) answers refused 16 1)
    ∷ (file_of m c (three 11 0 4294967292) answers refused 16 1)
    ∷ (file_of m c (three 11 0 0) answers refused 13 1)
    -- what passes: the last year, another year or month of a code, another code, a correction on its own mark's tick, the most lots either way,
    -- a price at the limit; an account in two marks, two accounts in one mark
    ∷ (file_of m c p answers settled 2 (pos 24060) (negsuc 9575) 0)
    ∷ (file_of (mark_of BB 6 99 940000 940100) c p answers settled 2 (pos 24060) (negsuc 9575) 0)
    ∷ (file_of (mark_of IR 3 19 940000 940100) c p answers settled 2 (pos 14484) (pos 0) 0)
    ∷ (file_of (mark_of IR 6 18 940000 940100) c p answers settled 2 (pos 14484) (pos 0) 0)
    ∷ (file_of (mark_of IB 3 18 940000 940100) c p answers settled 2 (pos 14196) (pos 0) 0)
    ∷ (file_of (mark_of IB 3 18 940000 940050) (three 5 1 940150) p answers settled 2 (pos 9264) (pos 0) 0)
    ∷ (file_of m c (three 12 1 1000000) answers settled 2 (pos 24060) (pos 2394000000) 0)
    ∷ (file_of m c (three 12 1 4293967296) answers settled 2 (pos 24060) (negsuc 2393999999) 0)
    ∷ (file_of (mark_of BB 6 19 1000000 1000000) c p answers settled 2 (pos 24060) (pos 0) 0)
    ∷ (file_of m c (three 11 1 4294967292) answers settled 2 (pos 24060) (negsuc 9575) 0)
    ∷ (file_of m c (three 12 0 4294967292) answers settled 2 (pos 14436) (pos 0) 0)
    ∷ []

pub files_answered : map (λ x. answer_of file_limits x.file 2) files ≡ map (λ x. x.answer) files
unfolding files nearest par price_limit yield_at products same_code find_in find has_month bill_dividend bill_divisor value_by value_of
    u32_bytes u32_at signed records_of first some mark_at correction_at position_at listed code_has_month tick_of currency_of value_or_zero
    decision_of judged_of counts_of highest_of final_of change_of amount_of total_of plan_of answer_of counts_in entry_bytes header_of made_of
files_answered = refl

-- one place for two positions: 14, but after 16
pub room-last : (answer_of file_limits (file_of m c p) 1 ≡ refused 14 0) × (answer_of file_limits (file_of m c (three 11 0 10)) 1 ≡ refused 16 1)
unfolding price_limit products same_code find_in find has_month u32_bytes u32_at signed records_of first some mark_at correction_at position_at
    listed code_has_month tick_of decision_of judged_of counts_of plan_of answer_of counts_in entry_bytes header_of made_of
room-last = (refl, refl)

-- ---- what each check finds by itself

-- a file, the numbers that are asked for, and what they find
pub record Findings : Type 0 where
  pub file : List ℕ
  pub asked : List ℕ
  pub found : List (Option ℕ)

unfoldable pub findings : List Findings
findings =
    -- four faults: a byte too many, a second mark off its tick, a second correction that names no mark, a second position without lots
    record {
      file = file_of (mark_of BB 6 19 940050 940100) (three 5 2 951000) (three 12 1 0) ++ (0 ∷ []);
      asked = 1 ∷ 2 ∷ 3 ∷ 4 ∷ 5 ∷ 6 ∷ 7 ∷ 8 ∷ 9 ∷ 10 ∷ 11 ∷ 12 ∷ 13 ∷ 14 ∷ 16 ∷ [];
      found = None ∷ None ∷ Some 0 ∷ None ∷ None ∷ None ∷ Some 1 ∷ None ∷ Some 1 ∷ None ∷ None ∷ None ∷ Some 1 ∷ None ∷ None ∷ [];
    }
    -- all of 3 to 13 and 16, most of them at two records: the first is found
    ∷ record {
      file =
          made_of
          (mark_of IR 3 18 950000 950200 ++ mark_of (66, 67) 6 19 940000 940100 ++ mark_of BB 6 19 1000100 940100 ++ mark_of BB 6 19 940050 1000100
          ++ mark_of IR 3 18 940050 940100)
          (three 7 0 950100 ++ three 5 9 951001 ++ three 6 1 951001 ++ three 6 0 951050 ++ three 7 8 1000100)
          (three 11 0 10 ++ three 12 5 4 ++ three 13 0 0 ++ three 14 9 0 ++ three 12 5 9 ++ three 11 0 1)
          ++ (0 ∷ []);
      asked = 1 ∷ 2 ∷ 3 ∷ 4 ∷ 5 ∷ 6 ∷ 7 ∷ 8 ∷ 9 ∷ 10 ∷ 11 ∷ 12 ∷ 13 ∷ 14 ∷ 16 ∷ [];
      found = None ∷ None ∷ Some 0 ∷ Some 1 ∷ Some 1 ∷ Some 2 ∷ Some 3 ∷ Some 3 ∷ Some 1 ∷ Some 3 ∷ Some 3 ∷ Some 1 ∷ Some 2 ∷ None ∷ Some 4 ∷ [];
    }
    -- shorter than a header: its length alone is looked at
    ∷ record {
      file = take 23 (header 257 25 0 24 0 24);
      asked = 0 ∷ 1 ∷ 2 ∷ 3 ∷ 4 ∷ [];
      found = None ∷ Some 0 ∷ None ∷ None ∷ None ∷ [];
    }
    -- a count above its limit: the header alone, though there is a mark with every fault
    ∷ record {
      file = header 257 24 0 3108 0 3108 ++ mark_of (66, 67) 7 100 1000001 1000001;
      asked = 1 ∷ 2 ∷ 3 ∷ 4 ∷ 5 ∷ 6 ∷ 7 ∷ [];
      found = None ∷ Some 0 ∷ Some 0 ∷ None ∷ None ∷ None ∷ None ∷ [];
    }
    -- a code in no table has no months and no tick
    ∷ record {
      file = file_of (mark_of (66, 67) 6 19 940001 940003) (three 5 1 951001) p;
      asked = 4 ∷ 5 ∷ 6 ∷ 7 ∷ 10 ∷ [];
      found = Some 1 ∷ Some 1 ∷ None ∷ None ∷ None ∷ [];
    }
    -- cut in its last record: whole records are looked at
    ∷ record {
      file = take 95 (file_of m (three 5 2 951001) (three 12 2 0));
      asked = 3 ∷ 9 ∷ 10 ∷ 12 ∷ 13 ∷ [];
      found = Some 0 ∷ Some 1 ∷ None ∷ None ∷ None ∷ [];
    }
    -- a wrong offset: the sections are cut by the counts
    ∷ record {
      file = header 1 24 0 48 1 36 ++ mark_of IR 3 18 950000 950200 ++ three 11 0 0;
      asked = 3 ∷ 4 ∷ 9 ∷ 12 ∷ 13 ∷ [];
      found = Some 0 ∷ None ∷ None ∷ None ∷ Some 0 ∷ [];
    }
    ∷ []

pub found_each : map (λ x. map (found_of file_limits x.file) x.asked) findings ≡ map (λ x. x.found) findings
unfolding findings price_limit products same_code find_in find has_month u32_bytes u32_at signed records_of first some
    mark_at correction_at position_at listed code_has_month tick_of finding_by found_of counts_of counts_in entry_bytes header_of made_of
found_each = refl
