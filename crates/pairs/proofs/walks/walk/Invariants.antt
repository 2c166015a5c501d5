-- At each step a walk from this place on completes the walk of record i from its root, and the place is below roots + 2 * i.
-- The places below a record stand after its own, so that the walk goes up and ends.
use Rattle.std.proofs.Common.{◌≡◌, ◌+◌, ◌-◌, ◌*◌, ◌<◌, ◌≤◌, get_or}
use Rattle.pairs.specs.Records.{keys_of}
use Rattle.pairs.specs.Walks.{root_of, rest_of, tree_of}
use Rattle.pairs.proofs.Trees.{Leads}
use Rattle.pairs.proofs.walks.walk.Given as goal

abbrev pub invariant-loop-k : goal.invariant-loop-k
invariant-loop-k l =
    Leads (tree_of (keys_of l.records) l.roots) l.place (keys_of l.records l.i) (rest_of (keys_of l.records l.i)) (root_of l.roots (keys_of l.records l.i)) l.rest l.at
    × (l.k ≡ get_or l.place l.at 0) × (l.k ≤ l.i) × (l.at < l.roots + 2 * l.i)

abbrev pub decreases-loop-k : goal.decreases-loop-k
decreases-loop-k l = l.roots + 2 * l.i - l.at
