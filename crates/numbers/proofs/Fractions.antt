-- Whole numbers near fractions, and multiples of their differences.
use Rattle.std.proofs.Common.{◌≡◌, ℕ, suc, ◌+◌, ◌*◌, ◌<◌, ◌≤◌, ℤ, pos, negsuc, ◌-ℤ◌, ◌*ℤ◌, nat_abs, refl, mul-le-mul_right, mul-pos, arith}
use Rattle.numbers.specs.Rounding.{nearest}
use Rattle.numbers.specs.Nearness.{Near}
use Rattle.numbers.specs.Fractions.{Fraction, ◌minus◌, ◌times◌, Within}
use Rattle.numbers.proofs.Rounding.{nearest_near, nearest-whole}
use Rattle.numbers.proofs.Nearness.{near_scale, near_cancel, near_add, near_as, near_sym}
use Rattle.numbers.proofs.Integers.{is_diff, is_times, is_turned, is-over, is_minus, is_abs}

-- k times the distance of v from the fraction x is at most a / 2. Two such numbers then differ as their fractions do, up to a / k.
pub record Close (k a v : ℕ) (x : Fraction) : Type 0 where
  pub proper : 0 < x.den
  pub near : Near (2 * k * (v * x.den)) (2 * k * x.num) (a * x.den)

-- a larger distance
pub close_more : {k a a' v : ℕ} {x : Fraction} → a ≤ a' → Close k a v x → Close k a' v x
close_more {x} l h = record { proper = h.proper; near = near_as h.near refl refl (mul-le-mul_right x.den l) }

-- a quotient rounded once
pub close_rounded : (k x d : ℕ) → 0 < d → Close k k (nearest x d) (record { num = x; den = d })
close_rounded k x d low =
    record {
      proper = low;
      near = near_as (near_scale k (nearest_near x d low)) (omega arith) (omega arith) (omega arith);
    }

-- a quotient that is whole
pub close_whole : (k x d n : ℕ) → 0 < d → x ≡ n * d → Close k 0 (nearest x d) (record { num = x; den = d })
close_whole k x d n low e = record { proper = low; near = rw (e, nearest-whole n d) (omega arith) }

module _ (k a v₁ v₀ : ℕ) (x₁ x₀ : Fraction) (h₁ : Close k a v₁ x₁) (h₀ : Close k a v₀ x₀) where
  spread : (m : ℕ) → Near (k * (m * v₁) * (x₁.den * x₀.den) + k * (m * (x₀.num * x₁.den)))
      (k * (m * v₀) * (x₁.den * x₀.den) + k * (m * (x₁.num * x₀.den))) (a * m * (x₁.den * x₀.den))
  spread m =
      near_cancel 2 (omega arith)
      (near_as (near_add (near_scale (m * x₀.den) h₁.near) (near_sym (near_scale (m * x₁.den) h₀.near))) (omega arith) (omega arith) (omega arith))

  -- k times a multiple of the difference, of either sign
  pub multiple_within : (m : ℤ) → Within (pos k *ℤ (m *ℤ (pos v₁ -ℤ pos v₀))) (pos k times m times (x₁ minus x₀)) (a * nat_abs m)
  multiple_within (pos m) =
      record {
        proper = mul-pos h₁.proper h₀.proper;
        apart = is_abs (is_minus (is-over _ (is_times k (is_times m (is_diff v₁ v₀)))) (is_times k (is_times m (is_diff _ _)))) (spread m);
      }
  multiple_within (negsuc m) =
      record {
        proper = mul-pos h₁.proper h₀.proper;
        apart = is_abs (is_minus (is-over _ (is_times k (is_turned m (is_diff v₁ v₀)))) (is_times k (is_turned m (is_diff _ _)))) (near_sym (spread (suc m)));
      }
