-- The sign and the figures taken from the table of pairs are the signed decimal (`signed_by_pairs`), and the byte stands after them.
use mir.Facts.{to_z-of_z}
use mir.Syntax.{w64}
use mathlib.Core.List.{[], ◌∷◌}
use Rattle.text.specs.Decimal.{signed_decimal}
use Rattle.text.proofs.Table.{signed_by_pairs}
use Rattle.text.proofs.Writing.{fitted_writes, writes_then}
use Rattle.report.proofs.fields.Figures.write_cents.Goals as goal

pub returns : goal.returns
returns c =
    writes_then (fitted_writes (signed_decimal _) (rw (to_z-of_z {w = w64} c.ranges.n, c.args.self.now.made, signed_by_pairs) at c.write_signed-k.ensures))
    (fitted_writes (_ ∷ []) c.write_byte.ensures)
