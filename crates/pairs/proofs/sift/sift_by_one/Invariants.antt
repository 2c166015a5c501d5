-- At t each of the first t records stays or is left, and the list's later entries are as they were.
use Rattle.std.proofs.Common.{◌≡◌, length, eqb, not}
use Rattle.pairs.specs.Indices.{at}
use Rattle.pairs.specs.Records.{keys_of}
use Rattle.pairs.specs.Sifting.{listed, stirred_by}
use Rattle.pairs.proofs.Spots.{spot_of}
use Rattle.pairs.proofs.Sifted.{Sifting, Ahead}
use Rattle.pairs.proofs.sift.sift_by_one.Given as goal

abbrev pub invariant-loop-t : goal.invariant-loop-t
invariant-loop-t g l =
    (length l.list ≡ length l.initial.list) × (length l.place ≡ length l.initial.place)
    × Sifting (keys_of l.records) (λ b x. spot_of l.shift b (stirred_by l.seed x)) (listed (not (eqb g.row.LISTED 0)) l.initial.list) l.place l.list l.t l.left
    × Ahead (at l.initial.list) l.list l.t
