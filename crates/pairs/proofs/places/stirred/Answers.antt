-- Halves of 32 bits have multiples that fit.
use Rattle.std.proofs.Common.{refl, arith}
use lib.Bits.{xor_lt}
use Rattle.pairs.proofs.places.stirred.Goals as goal

pub overflow_mul-z-in-Some : goal.overflow_mul-z-in-Some
overflow_mul-z-in-Some c = let w = rw c.in-Some.is at c.well_formed in omega (arith, xor_lt 64 c.args.x c.in-Some.seed (omega (arith, c.ranges)) (omega (arith, w)))

pub returns-in-Some : goal.returns-in-Some
returns-in-Some c = rw c.in-Some.is refl
