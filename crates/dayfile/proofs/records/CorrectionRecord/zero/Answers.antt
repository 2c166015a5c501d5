use Rattle.std.proofs.Common.{rules}
use Rattle.numbers.specs.Bytes.{u32_at}
use Rattle.dayfile.proofs.records.CorrectionRecord.zero.Goals as goal

pub returns : goal.returns
unfolding u32_at
returns c = search rules
