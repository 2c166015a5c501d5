use Rattle.std.proofs.Common.{get_or}
use Rattle.numbers.proofs.Searches.{some_start, some_next}
use Rattle.pricing.specs.Checking.{fails_at}
use Rattle.pricing.proofs.valuing.some_fails.Goals as goal

pub loop-k-init : goal.loop-k-init
loop-k-init c = some_start _

pub loop-k-preserved : goal.loop-k-preserved
loop-k-preserved c =
    let a = c.args in
    let at = c.loop-k in
    some_next (λ i. fails_at a.tick (get_or a.p i 0)) at.k at.invariant c.fails-bad.ensures
