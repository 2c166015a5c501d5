-- Both factors are at most one whole, so their product fits 64 bits, and the next factor is at most one whole too, which fits 32 (`next_v_low`).
use native.Mathlib.Omega.{arith}
use Rattle.pricing.specs.Rungs.{next_of}
use Rattle.pricing.proofs.Climbing.{product_low, next_v_low}
use Rattle.pricing.proofs.ladder.climb.Goals as goal

pub next_factor-requires : goal.next_factor-requires
next_factor-requires c = omega (arith, product_low c.requires)

pub overflow_cast-result : goal.overflow_cast-result
overflow_cast-result c = omega (arith, next_v_low c.requires c.next_factor.ensures)

pub next_factor-requires-2 : goal.next_factor-requires-2
next_factor-requires-2 c = omega (arith, product_low c.requires)

pub overflow_add-result : goal.overflow_add-result
overflow_add-result c = let s = c.requires in omega (arith, s.sum, next_v_low s c.next_factor-2.ensures)

pub returns : goal.returns
unfolding next_of
returns c = rw (c.next_factor.ensures, c.next_factor-2.ensures)
