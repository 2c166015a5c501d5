-- A bond's bracket: by the ladder of rounded powers, and exactly. The divisor q is 2,000,000 + Y, and v is 2,000,000 / q.
use Rattle.std.specs.Prelude.{ℕ, zero, suc, ◌+◌, ◌*◌, ◌-◌, ◌^◌}
use Rattle.numbers.specs.Rounding.{nearest}
use Rattle.numbers.specs.Sums.{sum_to}
use Rattle.numbers.specs.Fractions.{Fraction, ◌plus◌, scaled, ◌raised◌, added_to}

-- a yield of 200 per cent, which is 100 per cent for a half year: the dividend of v
abbrev pub base : ℕ
base = 2_000_000

-- V1, in units of 1 / D
abbrev pub first_factor : ℕ → ℕ → ℕ
first_factor D q = nearest (base * D) q

-- Vk, the discount factor of k half years, in units of 1 / D. (V0, one whole, stands in no formula.)
unfoldable pub factor : ℕ → ℕ → ℕ → ℕ
factor D q zero = D
factor D q (suc zero) = first_factor D q
factor D q (suc (suc k)) = nearest (factor D q (suc k) * first_factor D q) D

-- V1 + .. + Vn
unfoldable pub annuity : ℕ → ℕ → ℕ → ℕ
annuity D q n = sum_to n (factor D q)

-- c times (V1 + .. + Vn) plus 100 times Vn
unfoldable pub bracket : ℕ → ℕ → ℕ → ℕ → ℕ
bracket D c n q = c * annuity D q n + 100 * factor D q n

-- v
abbrev pub exact_factor : ℕ → Fraction
exact_factor q = record { num = base; den = q }

-- the exact bracket: c times (v + v² + .. + v^n) + 100 times v^n
unfoldable pub exact_bracket : ℕ → ℕ → ℕ → Fraction
exact_bracket c n q = scaled c (added_to n (λ k. exact_factor q raised k)) plus scaled 100 (exact_factor q raised n)

-- (v + v² + .. + v^n) times q^n, a whole number: each v^k becomes 2,000,000^k times q^(n - k)
unfoldable pub whole_annuity : ℕ → ℕ → ℕ
whole_annuity q n = sum_to n (λ k. base ^ k * q ^ (n - k))

-- the exact bracket times q^n
unfoldable pub whole_bracket : ℕ → ℕ → ℕ → ℕ
whole_bracket c n q = c * whole_annuity q n + 100 * base ^ n
