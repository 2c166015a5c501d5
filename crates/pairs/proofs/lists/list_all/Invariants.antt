-- At u the first u entries are listed.
use Rattle.std.proofs.Common.{◌≡◌, length}
use Rattle.numbers.specs.Folds.{Filled}
use Rattle.pairs.proofs.lists.list_all.Given as goal

abbrev pub invariant-loop-u : goal.invariant-loop-u
invariant-loop-u l = (length l.list ≡ length l.initial.list) × Filled 0 (λ v. v) l.u l.list
