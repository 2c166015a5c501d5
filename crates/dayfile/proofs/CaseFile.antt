-- The case of document 01, byte by byte.
use mathlib.Core.Path.{◌≡◌, refl}
use mathlib.Core.List.{List, [], ◌∷◌, ◌++◌}
use Prim.Native.Nat.{ℕ}
use Rattle.numbers.specs.Bytes.{records_of, u32_bytes}
use Rattle.dayfile.specs.Making.{counts_in, entry_bytes, header_of, made_of}

-- one mark IR, month 3, year 18, previous 950,000, today 950,200
unfoldable pub marks : List ℕ
marks = 73 ∷ 82 ∷ 3 ∷ 18 ∷ 240 ∷ 126 ∷ 14 ∷ 0 ∷ 184 ∷ 127 ∷ 14 ∷ 0 ∷ []

-- the correction (7, mark 0, 950,100) twice
unfoldable pub corrections : List ℕ
corrections = 7 ∷ 0 ∷ 0 ∷ 0 ∷ 0 ∷ 0 ∷ 0 ∷ 0 ∷ 84 ∷ 127 ∷ 14 ∷ 0 ∷ 7 ∷ 0 ∷ 0 ∷ 0 ∷ 0 ∷ 0 ∷ 0 ∷ 0 ∷ 84 ∷ 127 ∷ 14 ∷ 0 ∷ []

-- the positions (account 11, mark 0, lots 10) and (12, 0, −4)
unfoldable pub positions : List ℕ
positions = 11 ∷ 0 ∷ 0 ∷ 0 ∷ 0 ∷ 0 ∷ 0 ∷ 0 ∷ 10 ∷ 0 ∷ 0 ∷ 0 ∷ 12 ∷ 0 ∷ 0 ∷ 0 ∷ 0 ∷ 0 ∷ 0 ∷ 0 ∷ 252 ∷ 255 ∷ 255 ∷ 255 ∷ []

-- the 84 bytes, with header numbers 1 24 2 36 2 60
unfoldable pub case_file : List ℕ
case_file =
    (1 ∷ 0 ∷ 0 ∷ 0 ∷ 24 ∷ 0 ∷ 0 ∷ 0 ∷ 2 ∷ 0 ∷ 0 ∷ 0 ∷ 36 ∷ 0 ∷ 0 ∷ 0 ∷ 2 ∷ 0 ∷ 0 ∷ 0 ∷ 60 ∷ 0 ∷ 0 ∷ 0 ∷ [])
    ++ marks ++ corrections ++ positions

-- the file of the three lists is this one
pub case_made : made_of marks corrections positions ≡ case_file
unfolding marks corrections positions case_file records_of u32_bytes counts_in entry_bytes header_of made_of
case_made = refl
