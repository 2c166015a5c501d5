-- Laws of powers.
use Rattle.std.proofs.Common.{◌≡◌, ℕ, zero, suc, ◌*◌, ◌^◌, ◌≤◌, mul-le-mul, pow-suc, arith}
use native.Mathlib.Nat.{pow-zero}

pub pow_one : (x : ℕ) → x ^ 1 ≡ x
pow_one x = rw (pow-suc x 0, pow-zero) (omega arith)

pub one_pow : (k : ℕ) → 1 ^ k ≡ 1
one_pow zero = pow-zero 1
one_pow (suc k) = rw (pow-suc 1 k, one_pow k)

-- two powers, each raised by one
pub pow_both : (x y i j : ℕ) → x ^ suc i * y ^ suc j ≡ x ^ i * y ^ j * x * y
pow_both x y i j = rw (pow-suc x i, pow-suc y j) (omega arith)

-- a product of powers by the product of their bases
pub pow_product : (a s q r k : ℕ) → a * s ≤ q * r → a ^ k * s ^ k ≤ q ^ k * r ^ k
pow_product a s q r zero h = rw (pow-zero a, pow-zero s, pow-zero q, pow-zero r) (omega arith)
pow_product a s q r (suc k) h =
    rw (pow_both a s k k, pow_both q r k k) (omega (arith, mul-le-mul (pow_product a s q r k h) h))
