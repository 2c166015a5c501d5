-- After k - 1 climbs every ladder stands at rung k of its price; climbing all takes each to k + 1 (`all_next`).
use Rattle.std.proofs.Common.{get_or}
use Rattle.numbers.specs.Folds.{Filled}
use Rattle.pricing.specs.Rungs.{rung_at, no_rung}
use Rattle.pricing.proofs.ladder.ladders.Given as goal

abbrev pub invariant-loop : goal.invariant-loop
invariant-loop g l = Filled no_rung (λ i. rung_at (get_or l.fn.p i 0) l.counter) g.row.N l.l
