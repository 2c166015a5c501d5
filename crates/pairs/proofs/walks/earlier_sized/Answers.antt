-- Places for so many records start empty.
use Rattle.std.proofs.Common.{arith}
use lib.ListN.{length-replicate}
use Rattle.pairs.proofs.Rooms.{room_in}
use Rattle.pairs.proofs.Trees.{zeros}
use Rattle.pairs.proofs.walks.earlier_sized.Goals as goal

pub whole_as_slice-earlier_in : goal.whole_as_slice-earlier_in
whole_as_slice-earlier_in g c = omega (arith, c.requires.3, c.requires.4)

pub whole_as_slice-earlier_in-2 : goal.whole_as_slice-earlier_in-2
whole_as_slice-earlier_in-2 g c = omega (arith, c.requires.3)

pub earlier_in-requires : goal.earlier_in-requires
earlier_in-requires g c =
    let p = c.requires in
    (room_in _ _ p.2 (omega (arith, p.3)) (omega (arith, p.1, p.4)), zeros _, zeros _, simp length-replicate p.1, p.0)
