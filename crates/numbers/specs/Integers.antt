-- Integers.
use Rattle.std.specs.Prelude.{ℕ, Bool, false, List, ℤ, pos, negsuc, ◌==◌, slice_index_or}

abbrev pub is_zero : ℤ → Bool
is_zero (pos n) = n == 0
is_zero (negsuc n) = false

-- the integer at a place of a list, 0 past the end
abbrev pub entry_of : List ℤ → ℕ → ℤ
entry_of a i = slice_index_or a i (pos 0)
