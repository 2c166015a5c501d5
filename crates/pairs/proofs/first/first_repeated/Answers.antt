-- The records that are looked at have keys.
use Rattle.std.proofs.Common.{arith}
use Rattle.pairs.proofs.Rooms.{looked-keyed}
use Rattle.pairs.proofs.first.first_repeated.Goals as goal

pub invariant_of-first_of : goal.invariant_of-first_of
invariant_of-first_of c = record { keyed = looked-keyed _ _ _ _ (omega (arith, c.looked_at.ensures)) }
