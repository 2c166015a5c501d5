-- V1 is at most one whole (`first_cap`).
use Rattle.std.proofs.Common.{arith}
use Rattle.pricing.specs.Value.{scale, bond_divisor}
use Rattle.pricing.proofs.Bounds.{first_cap}
use Rattle.pricing.proofs.ladder.first_factor.Goals as goal

pub overflow_cast-result : goal.overflow_cast-result
unfolding scale bond_divisor
overflow_cast-result c = omega (arith, rw c.yield_at.ensures.value at c.rounded.ensures, first_cap c.requires)

pub returns : goal.returns
unfolding scale bond_divisor
returns c = rw c.yield_at.ensures.value at c.rounded.ensures
