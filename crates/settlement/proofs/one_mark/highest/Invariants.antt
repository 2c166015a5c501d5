-- After k corrections d is the highest-numbered one of the first k that names the mark, if there is one.
use Rattle.std.proofs.Common.{◌≡◌}
use Rattle.dayfile.specs.Records.{corrections_in}
use Rattle.settlement.specs.Prices.{highest_of}
use Rattle.settlement.specs.OneMark.{highest_in}
use Rattle.settlement.proofs.one_mark.highest.Given as goal

abbrev pub invariant-loop-k : goal.invariant-loop-k
invariant-loop-k l = highest_in l.d ≡ highest_of (corrections_in l.corrections) l.m l.k
