-- At lane k `bad` says whether one of the first k prices fails.
use Rattle.std.proofs.Common.{◌≡◌, get_or}
use Rattle.numbers.specs.Folds.{some}
use Rattle.pricing.specs.Checking.{fails_at}
use Rattle.pricing.proofs.valuing.some_fails.Given as goal

abbrev pub invariant-loop-k : goal.invariant-loop-k
invariant-loop-k l = l.bad ≡ some (λ i. fails_at l.tick (get_or l.p i 0)) l.k
