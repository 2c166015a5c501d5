-- Places that are cleared are empty.
use Rattle.pairs.proofs.Spots.{places_as}
use Rattle.pairs.proofs.Trees.{zeros}
use Rattle.pairs.proofs.sift.sift_cleared.Goals as goal

pub sift-requires : goal.sift-requires
sift-requires c =
    let p = c.requires in
    (p.0, p.1, places_as c.fill.ensures.len p.2, rw (c.fill.ensures.after (λ y e. e)) (zeros _))

pub returns : goal.returns
returns c = c.sift.ensures
