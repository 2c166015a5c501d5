use mathlib.Core.Path.{refl}
use Rattle.text.proofs.Writing.{wrote_then}
use Rattle.making.proofs.Written.{wrote_as, header_by}
use Rattle.making.proofs.writing.write_header.Goals as goal

pub returns : goal.returns
returns c =
    wrote_as (header_by _ c.corrections_start.ensures c.positions_start.ensures) refl
    (wrote_then (wrote_then c.write_entry.ensures c.write_entry-2.ensures) c.write_entry-3.ensures)
