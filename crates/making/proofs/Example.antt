-- Files made by the definitions, from literal bytes: the case of document 01, no records at all, and lists that are refused.
use mathlib.Core.Path.{◌≡◌, refl}
use mathlib.Core.List.{[], ◌∷◌, ◌++◌}
use lib.ListN.{replicate}
use Rattle.numbers.specs.Bytes.{u32_at, signed, records_of, u32_bytes}
use Rattle.numbers.specs.Folds.{first, some}
use Rattle.numbers.specs.Checks.{decision_of}
use Rattle.products.specs.Products.{price_limit, products, same_code, find_in, find, has_month}
use Rattle.dayfile.specs.Limits.{file_limits}
use Rattle.dayfile.specs.Records.{mark_at, correction_at, position_at}
use Rattle.dayfile.specs.Making.{counts_in, entry_bytes, header_of, made_of}
use Rattle.dayfile.proofs.CaseFile.{marks, corrections, positions, case_file}
use Rattle.checks.specs.Table.{listed, code_has_month, tick_of}
use Rattle.making.specs.Making.{made, refused, answer_of, buffer_after}

-- the lists of the case make its 84 bytes; two bytes more of a buffer stay; 83 bytes are too few
pub case_made : (answer_of file_limits marks corrections positions 84 ≡ made 84)
    × (buffer_after file_limits marks corrections positions (replicate 86 9) ≡ case_file ++ (9 ∷ 9 ∷ []))
    × (answer_of file_limits marks corrections positions 83 ≡ refused 17 0)
    × (buffer_after file_limits marks corrections positions (9 ∷ 9 ∷ []) ≡ 9 ∷ 9 ∷ [])
unfolding marks corrections positions case_file price_limit products same_code find_in find has_month u32_at signed records_of u32_bytes first some mark_at correction_at position_at
    listed code_has_month tick_of decision_of counts_in entry_bytes header_of made_of answer_of buffer_after
case_made = (refl, refl, refl, refl)

-- the header of 20 marks, no corrections and 300 positions: an offset of 264 and a count of 300 take two bytes
pub header_made : header_of (record { marks = 20; corrections = 0; positions = 300 })
    ≡ 20 ∷ 0 ∷ 0 ∷ 0 ∷ 24 ∷ 0 ∷ 0 ∷ 0 ∷ 0 ∷ 0 ∷ 0 ∷ 0 ∷ 8 ∷ 1 ∷ 0 ∷ 0 ∷ 44 ∷ 1 ∷ 0 ∷ 0 ∷ 8 ∷ 1 ∷ 0 ∷ 0 ∷ []
unfolding u32_bytes entry_bytes header_of
header_made = refl

-- no records: a header alone
pub empty-made : (answer_of file_limits [] [] [] 24 ≡ made 24)
    × (buffer_after file_limits [] [] [] (replicate 25 9)
    ≡ 0 ∷ 0 ∷ 0 ∷ 0 ∷ 24 ∷ 0 ∷ 0 ∷ 0 ∷ 0 ∷ 0 ∷ 0 ∷ 0 ∷ 24 ∷ 0 ∷ 0 ∷ 0 ∷ 0 ∷ 0 ∷ 0 ∷ 0 ∷ 24 ∷ 0 ∷ 0 ∷ 0 ∷ 9 ∷ [])
unfolding u32_at records_of u32_bytes first decision_of counts_in entry_bytes header_of made_of answer_of buffer_after
empty-made = (refl, refl)

-- In turn: 257 marks and a byte, 256 marks and a byte, 513 corrections, 4,097 positions; a mark of zeros with a byte more, and without it; a
-- byte more of corrections, and of positions; and a third position of zeros, whose lots are 0, with no room at all.
pub refusals_in_order : (answer_of file_limits (replicate 3085 0) [] [] 0 ≡ refused 2 0) × (answer_of file_limits (replicate 3073 0) [] [] 0 ≡ refused 3 0)
    × (answer_of file_limits [] (replicate 6156 0) [] 0 ≡ refused 2 0) × (answer_of file_limits [] [] (replicate 49164 0) 0 ≡ refused 2 0)
    × (answer_of file_limits (replicate 13 0) [] [] 0 ≡ refused 3 0) × (answer_of file_limits (replicate 12 0) [] [] 0 ≡ refused 4 0)
    × (answer_of file_limits marks (corrections ++ replicate 1 0) positions 0 ≡ refused 3 0) × (answer_of file_limits marks corrections (positions ++ replicate 1 0) 0 ≡ refused 3 0)
    × (answer_of file_limits marks corrections (positions ++ replicate 12 0) 0 ≡ refused 13 2)
unfolding marks corrections positions price_limit products same_code find_in find has_month u32_at signed records_of u32_bytes first some mark_at correction_at position_at
    listed code_has_month tick_of decision_of counts_in entry_bytes header_of made_of answer_of
refusals_in_order = (refl, refl, refl, refl, refl, refl, refl, refl, refl)
