-- A sixteenth of the places has room for a sixteenth of what places there are.
use Rattle.pairs.proofs.Spots.{few_of, places_few}
use Rattle.pairs.proofs.sift.sift_anew.Goals as goal

pub sift_cleared-requires : goal.sift_cleared-requires
sift_cleared-requires c =
    let p = c.requires in
    (p.0, p.1, places_few p.3)

pub slice_bounds-sift_cleared-end-then-list-records : goal.slice_bounds-sift_cleared-end-then-list-records
slice_bounds-sift_cleared-end-then-list-records c = few_of c.args.place.now
