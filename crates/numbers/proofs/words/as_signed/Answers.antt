-- The cast reads the same bits, and widening changes no number.
use Rattle.std.proofs.Common.{arith}
use Rattle.std.proofs.lemmas.Int.{ints}
use Rattle.numbers.proofs.TwosComplement.{cast_is}
use Rattle.numbers.proofs.words.as_signed.Goals as goal

pub returns : goal.returns
returns c = cast_is c.args.u (omega arith) (omega (arith, ints))
