-- The records that are looked at and have a place have keys.
use Rattle.pairs.proofs.Rooms.{looked-few}
use Rattle.pairs.proofs.walks.earlier.Goals as goal

pub invariant_of-earlier_among : goal.invariant_of-earlier_among
invariant_of-earlier_among c = record { keyed = looked-few _ _ _ _ c.looked_at.ensures c.min.ensures }
