-- At step i the count is that of the first i corrections that bear an earlier one's number: those for which the array names a last one.
use Rattle.std.proofs.Common.{◌≡◌, ◌≤◌}
use Rattle.numbers.specs.Folds.{repeating, count}
use Rattle.dayfile.specs.Records.{corrections_in}
use Rattle.checks.specs.Corrections.{number_pair}
use Rattle.checks.proofs.clashes.resent_count.Given as goal

abbrev pub invariant-loop-i : goal.invariant-loop-i
invariant-loop-i l = (l.t ≤ l.i) × (l.t ≡ count (repeating (number_pair (corrections_in l.corrections))) l.i)
