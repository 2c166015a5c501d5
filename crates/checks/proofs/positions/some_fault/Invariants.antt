-- At step i the answer so far is whether one of the first i positions has a fault, told by the numbers that its bytes have.
use Rattle.std.proofs.Common.{◌≡◌}
use Rattle.numbers.specs.Folds.{some}
use Rattle.dayfile.specs.Records.{marks_in, positions_in, position_at}
use Rattle.checks.specs.Faults.{position_faults, any_position_fault}
use Rattle.checks.proofs.positions.some_fault.Given as goal

abbrev pub invariant-loop-i : goal.invariant-loop-i
invariant-loop-i l = l.bad ≡ some (λ k. any_position_fault (position_faults (marks_in l.marks.bytes.now) (position_at (positions_in l.positions) k))) l.i
