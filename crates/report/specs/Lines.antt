-- The lines of a sheet. A line is its fields, parted by one space, and a newline.
use Rattle.std.specs.Prelude.{ℕ, List, [], ◌∷◌, ◌++◌, ℤ}
use Rattle.text.specs.Ascii.{ascii}
use Rattle.text.specs.Decimal.{decimal, signed_decimal}
use Rattle.products.specs.declared.table.Currency.{Currency}
use Rattle.products.specs.declared.table.Currency.TheVariants.{Aud, Nzd}
use Rattle.products.specs.Products.{currency_of}
use Rattle.dayfile.specs.Records.{mark_at, position_at}
use Rattle.dayfile.specs.declared.records.Mark.{Mark}
use Rattle.dayfile.specs.declared.records.Position.{Position}

abbrev pub space : ℕ
space = 32

abbrev pub newline : ℕ
newline = 10

-- a field and the byte after it
abbrev pub ended : List ℕ → ℕ → List ℕ
ended s b = s ++ (b ∷ [])

abbrev pub line : List (List ℕ) → List ℕ
line [] = newline ∷ []
line (s ∷ []) = ended s newline
line (s ∷ t ∷ r) = ended s space ++ line (t ∷ r)

-- ---- the currencies

abbrev pub AUD : List ℕ
AUD = ascii "AUD"

abbrev pub NZD : List ℕ
NZD = ascii "NZD"

-- a currency's three letters
unfoldable pub letters_of : Currency → List ℕ
letters_of Aud = AUD
letters_of Nzd = NZD

-- ---- the lines

-- account, code, month, year, amount in cents, currency
unfoldable pub position_line : ℕ → Mark → ℤ → List ℕ
position_line account m amount =
    line
    (decimal account ∷ (m.code.0 ∷ m.code.1 ∷ []) ∷ decimal m.month ∷ decimal m.year
    ∷ signed_decimal amount ∷ letters_of (currency_of m.code) ∷ [])

-- the line of the position with index i; `amount` gives each position's amount
abbrev pub line_at : List Mark → List Position → (ℕ → ℤ) → ℕ → List ℕ
line_at ms ps amount i = position_line (position_at ps i).account (mark_at ms (position_at ps i).mark) (amount i)

-- a currency's total, in its cents
unfoldable pub total_line : List ℕ → ℤ → List ℕ
total_line currency cents = line (ascii "total" ∷ currency ∷ signed_decimal cents ∷ [])

unfoldable pub resent_line : ℕ → List ℕ
resent_line k = line (ascii "resent" ∷ decimal k ∷ [])

-- a check's number and a record's index
unfoldable pub refusal_line : ℕ → ℕ → List ℕ
refusal_line k i = line (ascii "refused" ∷ decimal k ∷ ascii "at" ∷ decimal i ∷ [])
