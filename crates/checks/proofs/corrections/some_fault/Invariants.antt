-- At step i the answer so far is whether one of the first i corrections has a fault.
use Rattle.std.proofs.Common.{◌≡◌}
use Rattle.numbers.specs.Folds.{some}
use Rattle.dayfile.specs.Records.{marks_in, corrections_in, correction_at}
use Rattle.checks.specs.Faults.{correction_faults, any_correction_fault}
use Rattle.checks.proofs.corrections.some_fault.Given as goal

abbrev pub invariant-loop-i : goal.invariant-loop-i
invariant-loop-i l = l.bad ≡ some (λ k. any_correction_fault (correction_faults (marks_in l.marks.marks.now) (correction_at (corrections_in l.corrections) k))) l.i
