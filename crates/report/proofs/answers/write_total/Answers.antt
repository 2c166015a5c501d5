use mir.Facts.{to_z-of_z}
use mir.Syntax.{w64}
use Rattle.text.proofs.Writing.{fitted_writes, writes_then}
use Rattle.report.proofs.answers.write_total.Goals as goal

pub returns : goal.returns
returns c =
    writes_then (fitted_writes _ c.write_text-cents_at.ensures)
    (rw (to_z-of_z {w = w64} c.ranges.cents) at c.write_cents.ensures)
