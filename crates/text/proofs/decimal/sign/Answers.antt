use mathlib.Core.Path.{◌∙◌}
use mir.Facts.{to_z-of_z}
use Rattle.text.proofs.Table.{sign_size}
use Rattle.text.proofs.decimal.sign.Goals as goal

pub returns : goal.returns
returns c = c.from.ensures ∙ rw (to_z-of_z c.ranges.n) (sign_size c.args.n)
