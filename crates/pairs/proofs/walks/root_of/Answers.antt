-- The 32 bits are below 2^32, so that their product with the number of roots fits, and divided by 2^32 is below the number of roots.
use Rattle.std.proofs.Common.{mul-le-mul_left, mul-lt-mul_of_pos_right, arith}
use Rattle.pairs.specs.Walks.{root_of}
use Rattle.pairs.proofs.walks.root_of.Goals as goal

pub overflow_mul-result : goal.overflow_mul-result
overflow_mul-result c = omega (arith, c.scatter.ensures.1, mul-le-mul_left c.scatter.result c.requires.1)

pub returns : goal.returns
unfolding root_of
returns c = (rw c.scatter.ensures.0, omega (arith, mul-lt-mul_of_pos_right c.scatter.ensures.1 c.requires.0))
