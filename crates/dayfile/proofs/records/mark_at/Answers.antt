use Rattle.dayfile.specs.Records.{mark_at}
use Rattle.dayfile.proofs.records.mark_at.Goals as goal

pub returns : goal.returns
unfolding mark_at
returns c = c.record_at.ensures
