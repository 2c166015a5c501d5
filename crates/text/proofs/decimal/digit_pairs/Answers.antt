-- The constant is the digits of 00 to 99, byte for byte.
use mathlib.Core.Path.{refl}
use Rattle.text.specs.Table.{pairs_from, digit_pairs}
use Rattle.text.proofs.decimal.digit_pairs.Goals as goal

pub returns : goal.returns
unfolding pairs_from digit_pairs
returns c = refl
