-- The ladder's factors, step by step: how they follow each other, how large they get, and that they fall as the yield rises.
use mathlib.Core.Path.{◌≡◌, refl}
use Prim.Native.Nat.{ℕ, zero, suc, ◌+◌, ◌*◌, ◌-◌, ◌^◌, ◌≤◌, ◌<◌}
use native.Mathlib.Nat.{mul-le-mul, mul-le-mul_left, add-le-add, le_refl, pow-suc, pow-zero, sub_self}
use native.Mathlib.Omega.{arith}
use lib.Dec.{lit≤}
use Rattle.numbers.specs.Rounding.{nearest}
use Rattle.numbers.proofs.Rounding.{nearest_mono, nearest-whole}
use Rattle.numbers.proofs.Sums.{sum-none, sum_next, sum-scale, sum_rises, sum_low}
use Rattle.pricing.specs.Ladder.{base, first_factor, factor, annuity, bracket, whole_annuity}

pub factor-first : (D q : ℕ) → factor D q 1 ≡ first_factor D q
unfolding factor
factor-first D q = refl

pub factor_next : (D q k : ℕ) → factor D q (suc (suc k)) ≡ nearest (factor D q (suc k) * first_factor D q) D
unfolding factor
factor_next D q k = refl

pub annuity-none : (D q : ℕ) → annuity D q 0 ≡ 0
unfolding annuity
annuity-none D q = sum-none (factor D q)

pub annuity_next : (D q k : ℕ) → annuity D q (suc k) ≡ annuity D q k + factor D q (suc k)
unfolding annuity
annuity_next D q k = sum_next k (factor D q)

-- the whole annuity, step by step
pub whole-none : (q : ℕ) → whole_annuity q 0 ≡ 0
unfolding whole_annuity
whole-none q = sum-none (λ k. base ^ k * q ^ (0 - k))

pub whole_next : (q n : ℕ) → whole_annuity q (suc n) ≡ whole_annuity q n * q + base ^ suc n
unfolding whole_annuity
whole_next q n =
    rw (sum_next n (λ k. base ^ k * q ^ (suc n - k)), sub_self, pow-zero)
    (omega (arith, sum-scale n q (λ k. base ^ k * q ^ (n - k)) (λ k. base ^ k * q ^ (suc n - k)) (λ k l. term k l)))
  where
    term : (k : ℕ) → k ≤ n → base ^ k * q ^ (suc n - k) ≡ base ^ k * q ^ (n - k) * q
    term k l = let e : suc n - k ≡ suc (n - k) = omega arith in rw (e, pow-suc) (omega arith)

-- V1 is at most one whole where the yield is not below zero
pub first_below : (D q : ℕ) → base ≤ q → first_factor D q ≤ D
first_below D q h =
    omega (arith, nearest_mono (base * D) (D * base) base q (lit≤ tt) (omega arith) h, nearest-whole D base (lit≤ tt))

-- and so is every Vk
pub factor-below : (D q : ℕ) → 0 < D → base ≤ q → (k : ℕ) → factor D q k ≤ D
unfolding factor
factor-below D q hD h zero = le_refl D
factor-below D q hD h (suc zero) = first_below D q h
factor-below D q hD h (suc (suc k)) =
    omega (arith, nearest_mono _ _ D D hD (mul-le-mul (factor-below D q hD h (suc k)) (first_below D q h)) (le_refl D), nearest-whole D D hD)

pub annuity-below : (D q n : ℕ) → 0 < D → base ≤ q → annuity D q n ≤ n * D
unfolding annuity
annuity-below D q n hD h = sum_low n D (factor D q) (factor-below D q hD h)

-- a higher yield, a larger divisor: no larger factor
module _ (D q q' : ℕ) (pos-d : 0 < D) (pos-q : 0 < q) (h : q ≤ q') where
  first_falls : first_factor D q' ≤ first_factor D q
  first_falls = nearest_mono (base * D) (base * D) q q' pos-q (le_refl _) h

  pub factor_falls : (k : ℕ) → factor D q' k ≤ factor D q k
  unfolding factor
  factor_falls zero = le_refl D
  factor_falls (suc zero) = first_falls
  factor_falls (suc (suc k)) = nearest_mono _ _ D D pos-d (mul-le-mul (factor_falls (suc k)) first_falls) (le_refl D)

  pub bracket_falls : (c n : ℕ) → bracket D c n q' ≤ bracket D c n q
  unfolding bracket annuity
  bracket_falls c n =
      add-le-add (mul-le-mul_left c (sum_rises n (factor D q') (factor D q) factor_falls)) (mul-le-mul_left 100 (factor_falls n))
