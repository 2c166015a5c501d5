-- Numbers in decimal, written from a table that holds two figures for each number below 100.
use Rattle.std.specs.Prelude.{ℕ, zero, suc, ◌+◌, ◌*◌, ◌/◌, ◌%◌, List, [], ◌∷◌, ◌++◌, ℤ, pos, negsuc, nat_abs, length, get_or}
use Rattle.text.specs.Decimal.{digit, decimal, minus_sign}

-- the digits of n numbers from i on, two for each
unfoldable pub pairs_from : ℕ → ℕ → List ℕ
pairs_from i zero = []
pairs_from i (suc n) = digit (i / 10) ∷ digit (i % 10) ∷ pairs_from (suc i) n

-- 00 to 99
unfoldable pub digit_pairs : List ℕ
digit_pairs = pairs_from 0 100

-- the two figures of a number below 100
abbrev pub first_of : List ℕ → ℕ → ℕ
first_of table n = get_or table (2 * n) 0

abbrev pub second_of : List ℕ → ℕ → ℕ
second_of table n = get_or table (2 * n + 1) 0

-- the last k figures of n, two at a time from the last
unfoldable pub figures : List ℕ → ℕ → ℕ → List ℕ
figures table zero n = []
figures table (suc zero) n = second_of table n ∷ []
figures table (suc (suc k)) n = figures table k (n / 100) ++ (first_of table (n % 100) ∷ second_of table (n % 100) ∷ [])

-- as many as n has digits
unfoldable pub decimal_by : List ℕ → ℕ → List ℕ
decimal_by table n = figures table (length (decimal n)) n

-- the sign that is written
unfoldable pub sign_of : ℤ → List ℕ
sign_of (pos n) = []
sign_of (negsuc n) = minus_sign ∷ []

unfoldable pub signed_decimal_by : List ℕ → ℤ → List ℕ
signed_decimal_by table z = sign_of z ++ decimal_by table (nat_abs z)
