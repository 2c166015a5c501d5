-- A step is at least 1, so the prices left shrink.
use Rattle.std.proofs.Common.{◌+◌, ◌-◌, ◌<◌, ◌^◌}
use Rattle.sweep.proofs.lines.at_prices.Given as goal

abbrev pub invariant-loop-price : goal.invariant-loop-price
invariant-loop-price g l = l.price < 2 ^ 33

abbrev pub decreases-loop-price : goal.decreases-loop-price
decreases-loop-price g l = l.last + 1 - l.price
