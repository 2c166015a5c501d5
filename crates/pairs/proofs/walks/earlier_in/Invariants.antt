-- At step i the tree and the last record of each key are those of the first i records, and the first i answers stand in their places.
-- What stands beside the record at the end of i's walk, 0 where that place is empty, is the answer for i.
use Rattle.std.proofs.Common.{◌≡◌, length}
use Rattle.numbers.specs.Folds.{front}
use Rattle.pairs.specs.Records.{keys_of, earlier_of}
use Rattle.pairs.specs.Trees.{Tree}
use Rattle.pairs.specs.Walks.{tree_of}
use Rattle.pairs.proofs.walks.earlier_in.Given as goal

abbrev pub invariant-loop-i : goal.invariant-loop-i
invariant-loop-i l =
    ((length l.place ≡ length l.initial.place) × (length l.last ≡ length l.initial.last) × (length l.found ≡ length l.initial.found))
    × Tree (tree_of (keys_of l.records) l.roots) l.i l.place l.last × (l.found ≡ front (earlier_of l.records) l.initial.found l.i)
