-- The figures taken from the table of pairs are the number's decimal digits (`by_pairs`), and the byte stands after them.
use mathlib.Core.List.{[], ◌∷◌}
use Rattle.text.specs.Decimal.{decimal}
use Rattle.text.proofs.Table.{by_pairs}
use Rattle.text.proofs.Writing.{fitted_writes, writes_then}
use Rattle.report.proofs.fields.Figures.write_number.Goals as goal

pub returns : goal.returns
returns c =
    writes_then (fitted_writes (decimal _) (rw (c.args.self.now.made, by_pairs) at c.write_decimal-k.ensures))
    (fitted_writes (_ ∷ []) c.write_byte.ensures)
