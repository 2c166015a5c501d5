use Rattle.dayfile.specs.Records.{raw_position_at}
use Rattle.dayfile.proofs.records.raw_position_at.Goals as goal

pub returns : goal.returns
unfolding raw_position_at
returns c = c.record_at.ensures
