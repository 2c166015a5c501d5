-- By the key's width, which makes the record long enough for the bytes that are read.
use Rattle.std.proofs.Common.{arith}
use Rattle.numbers.specs.Bytes.{u32_at}
use Rattle.pairs.proofs.keys.key_of.Goals as goal

pub returns-in-Four : goal.returns-in-Four
unfolding u32_at
returns-in-Four c = rw c.in-Four.is (omega (arith, c.from_le_bytes.ensures))

pub returns-in-Eight : goal.returns-in-Eight
unfolding u32_at
returns-in-Eight c = rw c.in-Eight.is (omega (arith, c.from_le_bytes-in-Eight.ensures))
