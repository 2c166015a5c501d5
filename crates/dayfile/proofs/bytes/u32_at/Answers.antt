use Rattle.std.proofs.Common.{arith}
use Rattle.numbers.specs.Bytes.{u32_at}
use Rattle.dayfile.proofs.bytes.u32_at.Goals as goal

pub returns : goal.returns
unfolding u32_at
returns c = omega (arith, c.from_le_bytes.ensures)
