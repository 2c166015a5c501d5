-- Numbers in decimal, as ASCII text.
use Rattle.std.specs.Prelude.{ℕ, zero, suc, ◌+◌, ◌/◌, ◌%◌, cond, List, [], ◌∷◌, ◌++◌, ltb, ℤ, pos, negsuc}

-- the digit d
abbrev pub digit : ℕ → ℕ
digit d = 48 + d

-- the digits of n, the highest first: those of its tenth, and the last. At most f + 1 are taken.
unfoldable pub digits_within : ℕ → ℕ → List ℕ
digits_within zero n = digit (n % 10) ∷ []
digits_within (suc f) n = cond (ltb n 10) (digit n ∷ []) (digits_within f (n / 10) ++ (digit (n % 10) ∷ []))

-- all the digits of n, which are never more than n + 1, with no zero in front
unfoldable pub decimal : ℕ → List ℕ
decimal n = digits_within n n

abbrev pub minus_sign : ℕ
minus_sign = 45

-- a signed number, with a minus sign where it is negative
unfoldable pub signed_decimal : ℤ → List ℕ
signed_decimal (pos n) = decimal n
signed_decimal (negsuc n) = minus_sign ∷ decimal (suc n)
