-- Laws of rounding.
use Rattle.std.proofs.Common.{◌≡◌, ℕ, zero, suc, ◌+◌, ◌*◌, ◌/◌, ◌<◌, ◌≤◌, ◌∙◌, ap₂, zero-le, mul-le-mul_left, le-div_iff_mul-le, arith}
use native.Mathlib.Nat.{mul-div-le, lt-mul-div-succ, div-eq_of_lt-le, mul-div-mul_left}
use Rattle.numbers.specs.Rounding.{nearest}
use Rattle.numbers.specs.Nearness.{Near}

-- the rounded quotient times the divisor lies within half the divisor
pub nearest_near : (x d : ℕ) → 0 < d → Near (2 * (nearest x d * d)) (2 * x) d
unfolding nearest
nearest_near x d h = omega (arith, mul-div-le (2 * x + d) (2 * d), lt-mul-div-succ (2 * x + d) {b = 2 * d} (omega arith))

-- x / d, rounded, is the whole number r with r − 1/2 ≤ x / d < r + 1/2: a half goes up
pub half_up : (x d : ℕ) → 0 < d → (2 * (nearest x d * d) ≤ 2 * x + d) × (2 * x < 2 * (nearest x d * d) + d)
unfolding nearest
half_up x d h = (omega (arith, mul-div-le (2 * x + d) (2 * d)), omega (arith, lt-mul-div-succ (2 * x + d) {b = 2 * d} (omega arith)))

-- a larger dividend and a smaller divisor give no smaller quotient
pub nearest_mono : (x y d e : ℕ) → 0 < d → x ≤ y → d ≤ e → nearest x e ≤ nearest y d
unfolding nearest
nearest_mono x y d e pos h k = go (nearest x e) (mul-div-le (2 * x + e) (2 * e))
  where
    go : (r : ℕ) → 2 * e * r ≤ 2 * x + e → r ≤ nearest y d
    go zero l = zero-le
    go (suc r) l = (le-div_iff_mul-le {k = 2 * d} (omega arith)).1 (omega (arith, mul-le-mul_left r k))

-- a quotient that is whole stays
pub nearest-whole : (k d : ℕ) → 0 < d → nearest (k * d) d ≡ k
unfolding nearest
nearest-whole k d pos = div-eq_of_lt-le (2 * d) {m = 2 * (k * d) + d} (omega arith) (omega arith)

-- a common factor of dividend and divisor makes no difference
pub nearest-scale : (k x d : ℕ) → 0 < k → nearest (k * x) (k * d) ≡ nearest x d
unfolding nearest
nearest-scale k x d hk = ap₂ (λ (m n : ℕ). m / n) (p k x d) (q k d) ∙ mul-div-mul_left (2 * x + d) (2 * d) hk
  where
    p : (k x d : ℕ) → 2 * (k * x) + k * d ≡ k * (2 * x + d)
    p k x d = omega arith

    q : (k d : ℕ) → 2 * (k * d) ≡ k * (2 * d)
    q k d = omega arith

-- by half the divisor, rounded down
pub nearest_half : (x d : ℕ) → 0 < d → nearest x d ≡ (x + d / 2) / d
unfolding nearest
nearest_half x d pos = div-eq_of_lt-le (2 * d) {m = 2 * x + d} (low (mul-div-le (x + d / 2) d)) (high (lt-mul-div-succ (x + d / 2) pos))
  where
    low : d * ((x + d / 2) / d) ≤ x + d / 2 → (x + d / 2) / d * (2 * d) ≤ 2 * x + d
    low h = omega arith

    high : x + d / 2 < d * ((x + d / 2) / d + 1) → 2 * x + d < ((x + d / 2) / d + 1) * (2 * d)
    high h = omega arith
