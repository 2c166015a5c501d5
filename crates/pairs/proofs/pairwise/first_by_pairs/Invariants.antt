-- At i no record of the first i repeats an earlier one.
use Rattle.std.proofs.Common.{◌≡◌, None}
use Rattle.numbers.specs.Folds.{first, repeating}
use Rattle.pairs.specs.Records.{same_in}
use Rattle.pairs.proofs.pairwise.first_by_pairs.Given as goal

abbrev pub invariant-loop-i : goal.invariant-loop-i
invariant-loop-i l = first (repeating (same_in l.records)) l.i ≡ None
