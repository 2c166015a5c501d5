-- How far the ladder's bracket lies from the exact one.
use mathlib.Core.Path.{◌≡◌, refl}
use Prim.Native.Nat.{ℕ, zero, suc, ◌+◌, ◌*◌, ◌-◌, ◌^◌, ◌≤◌, ◌<◌}
use native.Mathlib.Nat.{mul-le-mul_left, pow-suc, pow-zero, pow-le-pow_left}
use native.Mathlib.Omega.{arith}
use Rattle.numbers.specs.Rounding.{nearest}
use Rattle.numbers.specs.Nearness.{Near}
use Rattle.numbers.proofs.Rounding.{nearest_near}
use Rattle.numbers.proofs.Nearness.{near_scale, near_cancel, near_add, near_as, near_then}
use Rattle.numbers.proofs.Powers.{pow_one, one_pow, pow_both, pow_product}
use Rattle.pricing.specs.Accuracy.{twice_distance}
use Rattle.pricing.specs.Ladder.{base, first_factor, factor, annuity, bracket, whole_annuity, whole_bracket}
use Rattle.pricing.proofs.Factors.{factor-first, factor_next, annuity-none, annuity_next, whole-none, whole_next, first_below}

-- One step of the ladder, as numbers: w rounds v * v1 / d. The growth of v from one power to the next is at most r / s.
-- G is q^k * s^(k - 1), H is base^k * s^(k - 1), E is q^k * r^(k - 1) and m is 2 * k - 1.
errors : (d q r s v1 G H E m : ℕ) → v1 * s ≤ d * r → H * s ≤ E * r → G * s ≤ E * r
    → G * q * s * d + (v1 * q * s * (m * E) + d * H * s * q) ≤ d * ((m + 2) * (E * r * q))
errors d q r s v1 G H E m hv hH hG =
    omega (arith, mul-le-mul_left (m * E * q) hv, mul-le-mul_left (d * q) hH, mul-le-mul_left (d * q) hG)

step : (d a q r s v v1 w G H E m : ℕ) → 0 < d
    → Near (2 * (v1 * q)) (2 * (a * d)) q → v1 * s ≤ d * r → H * s ≤ E * r → G * s ≤ E * r
    → Near (2 * (v * G)) (2 * (d * H)) (m * E)
    → Near (2 * (w * d)) (2 * (v * v1)) d
    → Near (2 * (w * (G * q * s))) (2 * (d * (H * a * s))) ((m + 2) * (E * r * q))
step d a q r s v v1 w G H E m pos h1 hv hH hG ih hw =
    near_cancel d pos (near_as
    (near_then (near_scale (G * q * s) hw) (p₁ v v1 q s G) (near_then (near_scale (v1 * q * s) ih) (p₂ d v1 q s H) (near_scale (d * H * s) h1)))
    (p₀ d w q s G) (p₃ d a s H) (errors d q r s v1 G H E m hv hH hG))
  where
    p₀ : (d w q s G : ℕ) → d * (2 * (w * (G * q * s))) ≡ G * q * s * (2 * (w * d))
    p₀ d w q s G = omega arith

    p₁ : (v v1 q s G : ℕ) → G * q * s * (2 * (v * v1)) ≡ v1 * q * s * (2 * (v * G))
    p₁ v v1 q s G = omega arith

    p₂ : (d v1 q s H : ℕ) → v1 * q * s * (2 * (d * H)) ≡ d * H * s * (2 * (v1 * q))
    p₂ d v1 q s H = omega arith

    p₃ : (d a s H : ℕ) → d * H * s * (2 * (a * d)) ≡ d * (2 * (d * (H * a * s)))
    p₃ d a s H = omega arith

-- One more term of the sum: the sum's distance grows from n² to (n + 1)². G is q^n * s^(n - 1), S is s^(n - 1), E is q^n * r^(n - 1).
sum_step : (d q r s t v A P G S E n : ℕ) → s ≤ r
    → Near (2 * (t * G)) (2 * (d * (A * S))) (n * n * E)
    → Near (2 * (v * (G * q * s))) (2 * (d * (P * (S * s)))) ((2 * n + 1) * (E * q * r))
    → Near (2 * ((t + v) * (G * q * s))) (2 * (d * ((A * q + P) * (S * s)))) (suc n * suc n * (E * q * r))
sum_step d q r s t v A P G S E n sr ih h =
    near_as (near_add (near_scale (q * s) ih) h) (p₀ q s t v G) (p₁ d q s A P S) (omega (arith, mul-le-mul_left (q * (n * n * E)) sr))
  where
    p₀ : (q s t v G : ℕ) → 2 * ((t + v) * (G * q * s)) ≡ q * s * (2 * (t * G)) + 2 * (v * (G * q * s))
    p₀ q s t v G = omega arith

    p₁ : (d q s A P S : ℕ) → q * s * (2 * (d * (A * S))) + 2 * (d * (P * (S * s))) ≡ 2 * (d * ((A * q + P) * (S * s)))
    p₁ d q s A P S = omega arith

-- The ladder where v grows by at most r / s from one power to the next, r / s being at least 1.
module _ (D q r s : ℕ) (pos : 0 < D) (posq : 0 < q) (sr : s ≤ r) (hv : first_factor D q * s ≤ D * r) (ha : base * s ≤ q * r) where
  powers_low : (k : ℕ) → base ^ suc k * s ^ k * s ≤ q ^ suc k * r ^ k * r
  powers_low k = omega (arith, rw (pow-suc s k, pow-suc r k) at (pow_product base s q r (suc k) ha))

  powers_high : (k : ℕ) → q ^ suc k * s ^ k * s ≤ q ^ suc k * r ^ k * r
  powers_high k = omega (arith, mul-le-mul_left (q ^ suc k) (rw (pow-suc s k, pow-suc r k) at (pow-le-pow_left sr (suc k))))

  factor_near : (k : ℕ) → Near (2 * (factor D q (suc k) * (q ^ suc k * s ^ k))) (2 * (D * (base ^ suc k * s ^ k))) ((2 * k + 1) * (q ^ suc k * r ^ k))
  factor_near zero =
      rw (factor-first D q, pow_one q, pow_one base, pow-zero s, pow-zero r) (near_as (nearest_near (base * D) q posq) (omega arith) (omega arith) (omega arith))
  factor_near (suc k) =
      rw (factor_next D q k, pow_both q s (suc k) k, pow_both base s (suc k) k, pow_both q r (suc k) k)
      (near_as
      (step D base q r s (factor D q (suc k)) (first_factor D q) (nearest (factor D q (suc k) * first_factor D q) D) _ _ _ (2 * k + 1) pos
      (nearest_near (base * D) q posq) hv (powers_low k) (powers_high k) (factor_near k) (nearest_near (factor D q (suc k) * first_factor D q) D pos))
      refl refl (omega arith))

  -- the sum of k + 1 factors
  annuity_near : (k : ℕ) → Near (2 * (annuity D q (suc k) * (q ^ suc k * s ^ k))) (2 * (D * (whole_annuity q (suc k) * s ^ k))) (suc k * suc k * (q ^ suc k * r ^ k))
  annuity_near zero =
      rw (annuity_next D q 0, whole_next q 0, annuity-none D q, whole-none q)
      (near_as (factor_near 0) (omega arith) (omega arith) (omega arith))
  annuity_near (suc k) =
      rw (annuity_next D q (suc k), whole_next q (suc k), pow_both q s (suc k) k, pow-suc s k, pow_both q r (suc k) k)
      (sum_step D q r s (annuity D q (suc k)) (factor D q (suc (suc k))) (whole_annuity q (suc k)) (base ^ suc (suc k)) _ (s ^ k) _ (suc k) sr
      (annuity_near k) (rw (pow_both q s (suc k) k, pow-suc s k, pow_both q r (suc k) k) at (factor_near (suc k))))

  bracket_near : (c k : ℕ) → Near (2 * (bracket D c (suc k) q * (q ^ suc k * s ^ k))) (2 * (D * (whole_bracket c (suc k) q * s ^ k)))
      ((c * (suc k * suc k) + 200 * suc k - 100) * (q ^ suc k * r ^ k))
  unfolding bracket whole_bracket
  bracket_near c k =
      near_as (near_add (near_scale c (annuity_near k)) (near_scale 100 (factor_near k)))
      (e₀ c (annuity D q (suc k)) (factor D q (suc k)) (q ^ suc k * s ^ k)) (e₁ c D (whole_annuity q (suc k)) (base ^ suc k) (s ^ k))
      (e₂ c k (q ^ suc k * r ^ k))
    where
      e₀ : (c t v G : ℕ) → 2 * ((c * t + 100 * v) * G) ≡ c * (2 * (t * G)) + 100 * (2 * (v * G))
      e₀ c t v G = omega arith

      e₁ : (c d A P S : ℕ) → c * (2 * (d * (A * S))) + 100 * (2 * (d * (P * S))) ≡ 2 * (d * ((c * A + 100 * P) * S))
      e₁ c d A P S = omega arith

      e₂ : (c k E : ℕ) → c * (suc k * suc k * E) + 100 * ((2 * k + 1) * E) ≤ (c * (suc k * suc k) + 200 * suc k - 100) * E
      e₂ c k E = rw (e₃ (c * (suc k * suc k)) k) (omega arith)
        where
          e₃ : (x k : ℕ) → x + 200 * suc k - 100 ≡ x + 100 * (2 * k + 1)
          e₃ x k = omega arith

-- q is 2,000,000 + Y. Over any scale D, for any n from 1, any coupon c and any yield Y from 0, the ladder's bracket
-- lies within (c n² + 200 n − 100) / 2 units of the exact one, which is D * whole_bracket / q^n units.
pub ladder_distance : (D c n q : ℕ) → 0 < D → 1 ≤ n → base ≤ q
    → Near (2 * (bracket D c n q * q ^ n)) (2 * (D * whole_bracket c n q)) (twice_distance c n * q ^ n)
ladder_distance D c zero q hD h hq = absurd (omega arith)
ladder_distance D c (suc k) q hD h hq =
    near_as (bracket_near D q 1 1 hD (omega arith) (omega arith) (omega (arith, first_below D q hq)) (omega arith) c k)
    (rw one_pow (omega arith)) (rw one_pow (omega arith)) (rw one_pow (omega arith))
