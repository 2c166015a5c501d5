-- `rounded` meets its contract: half the divisor is added before the division.
use mathlib.Core.Path.{sym}
use Rattle.numbers.proofs.Rounding.{nearest_half}
use Rattle.pricing.proofs.rounding.rounded.Goals as goal

pub returns : goal.returns
returns c = sym (nearest_half c.args.x c.args.d c.requires.0)
