-- Fractions, and the distance of a whole number from one.
use Rattle.std.specs.Prelude.{◌≡◌, ℕ, zero, suc, ◌+◌, ◌*◌, ◌^◌, ◌<◌, ◌≤◌, ℤ, pos, ◌-ℤ◌, ◌*ℤ◌, unsigned_abs}

-- num / den, not negative
pub record Fraction : Type 0 where
  pub num : ℕ
  pub den : ℕ

-- num / den, of either sign
pub record SignedFraction : Type 0 where
  pub num : ℤ
  pub den : ℕ

-- a whole number
abbrev pub wholly : ℕ → Fraction
wholly n = record { num = n; den = 1 }

infixl 6 ◌plus◌
abbrev pub ◌plus◌ : Fraction → Fraction → Fraction
x plus y = record { num = x.num * y.den + y.num * x.den; den = x.den * y.den }

-- a whole number of times a fraction
abbrev pub scaled : ℕ → Fraction → Fraction
scaled k x = record { num = k * x.num; den = x.den }

infixl 8 ◌raised◌
abbrev pub ◌raised◌ : Fraction → ℕ → Fraction
x raised k = record { num = x.num ^ k; den = x.den ^ k }

-- x 1 + .. + x n
unfoldable pub added_to : ℕ → (ℕ → Fraction) → Fraction
added_to zero x = wholly 0
added_to (suc n) x = added_to n x plus x (suc n)

-- the same number
pub record Same (x y : Fraction) : Type 0 where
  pub proper : (0 < x.den) × (0 < y.den)
  pub same : x.num * y.den ≡ y.num * x.den

infixl 6 ◌minus◌
abbrev pub ◌minus◌ : Fraction → Fraction → SignedFraction
x minus y = record { num = pos (x.num * y.den) -ℤ pos (y.num * x.den); den = x.den * y.den }

infixr 7 ◌times◌
abbrev pub ◌times◌ : ℤ → SignedFraction → SignedFraction
k times x = record { num = k *ℤ x.num; den = x.den }

-- z differs from the fraction x by at most e. The divisor is not 0, or this would say nothing.
pub record Within (z : ℤ) (x : SignedFraction) (e : ℕ) : Type 0 where
  pub proper : 0 < x.den
  pub apart : unsigned_abs (z *ℤ pos x.den -ℤ x.num) ≤ e * x.den
