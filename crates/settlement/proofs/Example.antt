-- Files settled by the definitions: those that document 01 gives, and one with two marks.
use mathlib.Core.Path.{◌≡◌, refl}
use mathlib.Core.List.{List, [], ◌∷◌, ◌++◌}
use Prim.Native.Nat.{ℕ}
use lib.IntN.{pos, negsuc}
use lib.ListN.{replicate}
use Rattle.numbers.specs.Rounding.{nearest}
use Rattle.products.specs.Products.{price_limit, products, same_code, find_in, find, currency_of, has_month}
use Rattle.pricing.specs.Prices.{par, yield_at}
use Rattle.pricing.specs.Value.{bill_dividend, bill_divisor, value_by}
use Rattle.pricing.specs.Calls.{value_of}
use Rattle.numbers.specs.Bytes.{u32_at, signed, records_of}
use Rattle.numbers.specs.Folds.{first, some}
use Rattle.dayfile.specs.Limits.{file_limits}
use Rattle.dayfile.specs.Records.{mark_at, correction_at, position_at}
use Rattle.checks.specs.Table.{listed, code_has_month, tick_of}
use Rattle.settlement.specs.ContractValue.{value_or_zero}
use Rattle.numbers.specs.Checks.{decision_of}
use Rattle.checks.specs.Judging.{judged_of}
use Rattle.dayfile.specs.Layout.{counts_of}
use Rattle.settlement.specs.Prices.{highest_of, final_of, change_of}
use Rattle.settlement.specs.Settling.{amount_of, total_of, settled, refused, plan_of, answer_of, amounts_after}
use Rattle.dayfile.proofs.CaseFile.{marks, corrections, positions, case_file}

-- the answer to the case of document 01, its amounts in a slice of three places, and its answer with one place
pub case_settled : (answer_of file_limits case_file 2 ≡ settled 2 (pos 14436) (pos 0) 1)
    × (amounts_after file_limits case_file (pos 1 ∷ pos 2 ∷ pos 3 ∷ []) ≡ pos 24060 ∷ negsuc 9623 ∷ pos 3 ∷ [])
    × (answer_of file_limits case_file 1 ≡ refused 14 0)
unfolding marks corrections positions case_file nearest par price_limit yield_at products same_code find_in find has_month bill_dividend bill_divisor value_by value_of
    u32_at signed records_of first some mark_at correction_at position_at listed code_has_month tick_of currency_of value_or_zero
    decision_of judged_of counts_of highest_of final_of change_of amount_of total_of plan_of answer_of amounts_after
case_settled = (refl, refl, refl)

-- Two marks, IR as above and BB 6 19 from 940,000 to 940,100, which no correction names; between two copies of the correction one with a lower
-- number; and a position in each mark. The header numbers are 2 24 3 48 2 84.
unfoldable pub two_marks : List ℕ
two_marks =
    (2 ∷ 0 ∷ 0 ∷ 0 ∷ 24 ∷ 0 ∷ 0 ∷ 0 ∷ 3 ∷ 0 ∷ 0 ∷ 0 ∷ 48 ∷ 0 ∷ 0 ∷ 0 ∷ 2 ∷ 0 ∷ 0 ∷ 0 ∷ 84 ∷ 0 ∷ 0 ∷ 0 ∷ [])
    ++ (73 ∷ 82 ∷ 3 ∷ 18 ∷ 240 ∷ 126 ∷ 14 ∷ 0 ∷ 184 ∷ 127 ∷ 14 ∷ 0 ∷ 66 ∷ 66 ∷ 6 ∷ 19 ∷ 224 ∷ 87 ∷ 14 ∷ 0 ∷ 68 ∷ 88 ∷ 14 ∷ 0 ∷ [])
    ++ (7 ∷ 0 ∷ 0 ∷ 0 ∷ 0 ∷ 0 ∷ 0 ∷ 0 ∷ 84 ∷ 127 ∷ 14 ∷ 0 ∷ 5 ∷ 0 ∷ 0 ∷ 0 ∷ 0 ∷ 0 ∷ 0 ∷ 0 ∷ 216 ∷ 130 ∷ 14 ∷ 0 ∷ [])
    ++ (7 ∷ 0 ∷ 0 ∷ 0 ∷ 0 ∷ 0 ∷ 0 ∷ 0 ∷ 84 ∷ 127 ∷ 14 ∷ 0 ∷ [])
    ++ (11 ∷ 0 ∷ 0 ∷ 0 ∷ 0 ∷ 0 ∷ 0 ∷ 0 ∷ 10 ∷ 0 ∷ 0 ∷ 0 ∷ 12 ∷ 0 ∷ 0 ∷ 0 ∷ 1 ∷ 0 ∷ 0 ∷ 0 ∷ 252 ∷ 255 ∷ 255 ∷ 255 ∷ [])

-- the higher number decides, today's price stands where no correction does, and each currency has its own total
pub two_marks-settled : (answer_of file_limits two_marks 2 ≡ settled 2 (pos 24060) (negsuc 9575) 1)
    × (amounts_after file_limits two_marks (pos 1 ∷ pos 2 ∷ []) ≡ pos 24060 ∷ negsuc 9575 ∷ [])
unfolding two_marks nearest par price_limit yield_at products same_code find_in find has_month bill_dividend bill_divisor value_by value_of
    u32_at signed records_of first some mark_at correction_at position_at listed code_has_month tick_of currency_of value_or_zero
    decision_of judged_of counts_of highest_of final_of change_of amount_of total_of plan_of answer_of amounts_after
two_marks-settled = (refl, refl)

-- a count of 0 and an offset of 24
unfoldable pub no_records : List ℕ
no_records = 0 ∷ 0 ∷ 0 ∷ 0 ∷ 24 ∷ 0 ∷ 0 ∷ 0 ∷ []

-- 23 bytes, and 24 bytes with counts 0 and offsets 24
pub empty-settled : (answer_of file_limits (replicate 23 0) 0 ≡ refused 1 0)
    × (answer_of file_limits (no_records ++ no_records ++ no_records) 0 ≡ settled 0 (pos 0) (pos 0) 0)
unfolding no_records u32_at records_of first decision_of judged_of counts_of total_of plan_of answer_of
empty-settled = (refl, refl)
