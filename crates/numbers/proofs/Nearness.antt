-- Laws of nearness.
use Rattle.std.proofs.Common.{◌≡◌, ℕ, ◌+◌, ◌*◌, ◌<◌, ◌≤◌, mul-le-mul_left, arith}
use native.Mathlib.Nat.{le_of_mul-le-mul_left}
use Rattle.numbers.specs.Nearness.{Near}

pub near_scale : (k : ℕ) {x y e : ℕ} → Near x y e → Near (k * x) (k * y) (k * e)
near_scale k {x} {y} {e} h = omega (arith, mul-le-mul_left k h.up, mul-le-mul_left k h.down)

-- a common factor goes
pub near_cancel : (k : ℕ) {x y e : ℕ} → 0 < k → Near (k * x) (k * y) (k * e) → Near x y e
near_cancel k {x} {y} {e} pos h = record {
  up = le_of_mul-le-mul_left {m = x} {n = y + e} {k = k} (omega (arith, h.up)) pos;
  down = le_of_mul-le-mul_left {m = y} {n = x + e} {k = k} (omega (arith, h.down)) pos;
}

pub near_add : {x y e x' y' e' : ℕ} → Near x y e → Near x' y' e' → Near (x + x') (y + y') (e + e')
near_add h k = omega arith

-- the same in other words, and perhaps farther
pub near_as : {x y e x' y' e' : ℕ} → Near x y e → x' ≡ x → y ≡ y' → e ≤ e' → Near x' y' e'
near_as h p q l = omega arith

-- one after the other
pub near_then : {x y e y' z e' : ℕ} → Near x y e → y ≡ y' → Near y' z e' → Near x z (e + e')
near_then h p k = omega arith

pub near_sym : {x y e : ℕ} → Near x y e → Near y x e
near_sym h = omega arith
