use Rattle.dayfile.specs.Making.{entry_bytes}
use Rattle.text.proofs.Writing.{wrote_then}
use Rattle.making.proofs.writing.write_entry.Goals as goal

pub returns : goal.returns
unfolding entry_bytes
returns c =
    wrote_then c.write_u32.ensures c.write_u32-2.ensures
