-- A section has one record for each whole 12 of its bytes.
use mathlib.Core.Path.{sym}
use Rattle.dayfile.specs.Records.{record_size}
use Rattle.numbers.proofs.Sections.{size_is}
use Rattle.dayfile.proofs.records.count.Goals as goal

pub returns : goal.returns
returns g c = sym (size_is g.R.Record.of record_size _)
