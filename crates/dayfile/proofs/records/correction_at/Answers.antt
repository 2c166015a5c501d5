use Rattle.dayfile.specs.Records.{correction_at}
use Rattle.dayfile.proofs.records.correction_at.Goals as goal

pub returns : goal.returns
unfolding correction_at
returns c = c.record_at.ensures
