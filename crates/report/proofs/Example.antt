-- Document 01's case: the file of 84 bytes prints its five lines. Then two files more.
use mathlib.Core.Path.{◌≡◌, refl}
use mathlib.Core.List.{List, ◌++◌}
use Prim.Native.Nat.{ℕ}
use Rattle.numbers.specs.Rounding.{nearest}
use Rattle.products.specs.Products.{price_limit, products, same_code, find_in, find, currency_of, has_month}
use Rattle.pricing.specs.Prices.{par, yield_at}
use Rattle.pricing.specs.Value.{bill_dividend, bill_divisor, value_by}
use Rattle.pricing.specs.Calls.{value_of}
use Rattle.numbers.specs.Bytes.{u32_at, u32_bytes, signed, records_of}
use Rattle.numbers.specs.Folds.{first, some}
use Rattle.dayfile.specs.Records.{mark_at, correction_at, position_at}
use Rattle.checks.specs.Table.{listed, code_has_month, tick_of}
use Rattle.settlement.specs.ContractValue.{value_or_zero}
use Rattle.numbers.specs.Checks.{decision_of}
use Rattle.checks.specs.Judging.{judged_of}
use Rattle.dayfile.specs.Layout.{counts_of}
use Rattle.dayfile.specs.Making.{counts_in, entry_bytes, header_of, made_of}
use Rattle.settlement.specs.Prices.{highest_of, final_of, change_of}
use Rattle.settlement.specs.Settling.{amount_of, total_of, plan_of, answer_of}
use Rattle.dayfile.proofs.CaseFile.{marks, corrections, positions, case_file}
use Rattle.settlement.proofs.Example.{two_marks}
use Rattle.settlement.proofs.AnsweredFiles.{no_mark}
use Rattle.text.specs.Ascii.{ascii}
use Rattle.text.specs.Writing.{texts}
use Rattle.text.specs.Decimal.{digits_within, decimal, signed_decimal}
use Rattle.report.specs.Lines.{letters_of, position_line, total_line, resent_line, refusal_line}
use Rattle.report.specs.Sheet.{answer_text, positions_text, sheet_of}

pub printed : List ℕ
printed =
    ascii "11 IR 3 18 24060 AUD\n"
    ++ ascii "12 IR 3 18 -9624 AUD\n"
    ++ ascii "total AUD 14436\n"
    ++ ascii "total NZD 0\n"
    ++ ascii "resent 1\n"

-- with room for its amounts, and settled into a slice of one place
pub case_prints : (sheet_of case_file 4096 ≡ printed) × (sheet_of case_file 1 ≡ ascii "refused 14 at 0\n")
unfolding marks corrections positions case_file printed nearest par price_limit yield_at products same_code find_in find has_month bill_dividend bill_divisor value_by value_of
    u32_at signed records_of first some mark_at correction_at position_at listed code_has_month tick_of currency_of value_or_zero
    decision_of judged_of counts_of highest_of final_of change_of amount_of total_of plan_of answer_of
    texts digits_within decimal signed_decimal letters_of position_line total_line resent_line refusal_line answer_text positions_text sheet_of
case_prints = (refl, refl)

-- a file with both currencies, and one whose second position names no mark
pub others_print : (sheet_of two_marks 2 ≡ ascii "11 IR 3 18 24060 AUD\n" ++ ascii "12 BB 6 19 -9576 NZD\n" ++ ascii "total AUD 24060\n" ++ ascii "total NZD -9576\n" ++ ascii "resent 1\n")
    × (sheet_of no_mark 2 ≡ ascii "refused 12 at 1\n")
unfolding two_marks u32_bytes counts_in entry_bytes header_of made_of nearest par price_limit yield_at products same_code find_in find has_month bill_dividend bill_divisor value_by value_of
    u32_at signed records_of first some mark_at correction_at position_at listed code_has_month tick_of currency_of value_or_zero
    decision_of judged_of counts_of highest_of final_of change_of amount_of total_of plan_of answer_of
    texts digits_within decimal signed_decimal letters_of position_line total_line resent_line refusal_line answer_text positions_text sheet_of
others_print = (refl, refl)
