-- The words of the position's mark lie within the list, so that their place, 16 times the mark's index, fits a usize.
use native.Mathlib.Omega.{arith}
use mir.Facts.{to_z-of_z}
use mir.Syntax.{w64}
use Rattle.text.proofs.Writing.{writes_then}
use Rattle.report.proofs.positions.write_line.Goals as goal

pub overflow_mul-w : goal.overflow_mul-w
overflow_mul-w c = record { fits = omega (arith, c.requires.within) }

pub returns : goal.returns
returns c =
    writes_then (rw c.from.ensures at c.write_number-rest_at.ensures)
    (rw (to_z-of_z {w = w64} c.ranges.amount) at c.write_rest.ensures)
