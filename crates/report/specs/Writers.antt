-- What the writers of a sheet ask of each other and give. No caller sees these.
use Rattle.std.specs.Prelude.{◌≡◌, ℕ, ◌+◌, ◌≤◌, ◌<◌, List, [], ◌∷◌, ◌++◌, ℤ, length, get_or, take, drop, replicate}
use Rattle.text.specs.Decimal.{decimal, signed_decimal}
use Rattle.text.specs.Writing.{over, texts}
use Rattle.products.specs.Products.{currency_of}
use Rattle.numbers.specs.Integers.{entry_of}
use Rattle.dayfile.specs.Records.{Lists, mark_at, position_at}
use Rattle.settlement.specs.Settling.{Answer, settled, refused, Plan, paid_by, answer_by}
use Rattle.dayfile.specs.declared.records.Mark.{Mark}
use Rattle.dayfile.specs.declared.records.Position.{Position}
use Rattle.report.specs.Lines.{space, newline, ended, letters_of, line_at}

-- ---- a mark's words, which the lines of its positions share

-- code, month and year, each with a space after it
abbrev pub contract_fields : Mark → List ℕ
contract_fields m = (m.code.0 ∷ m.code.1 ∷ space ∷ []) ++ ended (decimal m.month) space ++ ended (decimal m.year) space

-- currency and the line's end
abbrev pub line_end : Mark → List ℕ
line_end m = ended (letters_of (currency_of m.code)) newline

-- fields in 11 bytes, with zeros after them
abbrev pub padded : List ℕ → List ℕ
padded fields = over fields (replicate 11 0)

-- fields and a line's end in 16 bytes: those 11, the end in 4, and the length of the fields
unfoldable pub packed : List ℕ → List ℕ → List ℕ
packed fields end = padded fields ++ end ++ (length fields ∷ [])

abbrev pub words_at : List Mark → ℕ → List ℕ
words_at ms j = packed (contract_fields (mark_at ms j)) (line_end (mark_at ms j))

-- ---- the words that stand at a place of a list, and a line with them

abbrev pub length_in : List ℕ → ℕ → ℕ
length_in words at = get_or words (at + 15) 0

abbrev pub fields_in : List ℕ → ℕ → List ℕ
fields_in words at = take (length_in words at) (drop at words)

abbrev pub end_in : List ℕ → ℕ → List ℕ
end_in words at = take 4 (drop (at + 11) words)

-- the fields end within the twelve bytes that are copied, and the amount and the line's end cover those after them
pub record Words (words : List ℕ) (at : ℕ) : Type 0 where
  pub within : at + 16 ≤ length words
  pub least : 6 ≤ length_in words at
  pub most : length_in words at ≤ 12

-- amount, currency and the line's end
abbrev pub money_in : List ℕ → ℕ → ℤ → List ℕ
money_in words at amount = ended (signed_decimal amount) space ++ end_in words at

-- what stands after the account
abbrev pub rest_in : List ℕ → ℕ → ℤ → List ℕ
rest_in words at amount = fields_in words at ++ money_in words at amount

abbrev pub line_with : List ℕ → ℕ → ℕ → ℤ → List ℕ
line_with words at account amount = ended (decimal account) space ++ rest_in words at amount

-- each of the first n positions names a mark
abbrev pub Named : List Mark → List Position → ℕ → Type 0
Named ms ps n = (i : ℕ) → i < n → (position_at ps i).mark < length ms

-- ---- the plan that a file is settled by

-- how many positions an answer has settled
abbrev pub count_of : Answer → ℕ
count_of (settled n aud nzd k) = n
count_of (refused k i) = 0

-- the lines of the first n positions, with the amounts of a slice
abbrev pub lines_in : Lists → List ℤ → ℕ → List ℕ
lines_in ls a n = texts (line_at ls.marks ls.positions (entry_of a)) n

-- a slice of amounts after a plan was carried out, with its count of positions
pub record Paid (plan : Plan) (n : ℕ) (a : List ℤ) : Type 0 where
  pub before : List ℤ
  pub written : a ≡ paid_by plan before
  pub count : n ≡ count_of (answer_by plan)
