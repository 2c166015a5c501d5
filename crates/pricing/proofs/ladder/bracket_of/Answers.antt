-- A coupon of at most 3 and a low rung keep each product and the bracket within 64 bits.
use native.Mathlib.Nat.{mul-le-mul}
use native.Mathlib.Omega.{arith}
use Rattle.pricing.proofs.ladder.bracket_of.Goals as goal

pub overflow_mul-result : goal.overflow_mul-result
overflow_mul-result c = omega (arith, mul-le-mul c.requires.0 c.requires.1.sum)

pub overflow_add-result : goal.overflow_add-result
overflow_add-result c = let s = c.requires in omega (arith, mul-le-mul s.0 s.1.sum, s.1.v)
