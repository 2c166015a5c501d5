-- Each part is written where the one before it ends: there its own offset is.
use mathlib.Core.Path.{refl}
use native.Mathlib.Omega.{arith}
use Rattle.dayfile.proofs.Made.{made_by}
use Rattle.text.proofs.Writing.{wrote_then}
use Rattle.making.proofs.Written.{wrote_as}
use Rattle.making.proofs.writing.write_file.Goals as goal

pub returns : goal.returns
returns c =
    let w = c.requires.0 in
    let a = c.corrections_start-corrections_start.ensures in
    let b = c.positions_start-positions_start.ensures in
    wrote_as (made_by _ _ _ w.counts) (omega (arith, w.positions, b))
    (wrote_then (wrote_as refl (omega (arith, w.corrections, a, b))
    (wrote_then (wrote_as refl (omega (arith, w.marks, a)) (wrote_then c.write_header.ensures c.write_section.ensures))
    c.write_section-2.ensures)) c.write_section-3.ensures)
