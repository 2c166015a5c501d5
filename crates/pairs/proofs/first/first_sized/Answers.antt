-- Places that have room start empty.
use Rattle.std.proofs.Common.{length-take-le, arith}
use lib.ListN.{length-replicate}
use Rattle.pairs.proofs.Trees.{zeros}
use Rattle.pairs.proofs.Spots.{places_in, sixteenth_in}
use Rattle.pairs.proofs.first.first_sized.Goals as goal

pub whole_as_slice-first_in : goal.whole_as_slice-first_in
whole_as_slice-first_in g c = omega (arith, c.requires.2.limited)

pub whole_as_front-first_in : goal.whole_as_front-first_in
whole_as_front-first_in g c = (c.requires.0, omega (arith, c.requires.1))

pub first_in-requires : goal.first_in-requires
first_in-requires g c =
    let p = c.requires in
    (length-take-le _ _ (simp length-replicate p.0), places_in _ _ (omega (arith, p.2.short)) p.2.all, zeros _, sixteenth_in _ _ p.2.short p.2.few)
