-- At step i the answer so far is whether one of the first i marks has a fault, and the first i places of the array hold their ticks.
use Rattle.std.proofs.Common.{◌≡◌, length}
use Rattle.numbers.specs.Folds.{some, Filled}
use Rattle.dayfile.specs.Limits.{file_limits}
use Rattle.dayfile.specs.Records.{marks_in, mark_at}
use Rattle.checks.specs.Faults.{mark_faults, any_mark_fault, tick_at}
use Rattle.checks.proofs.marks.some_fault.Given as goal

abbrev pub invariant-loop-i : goal.invariant-loop-i
invariant-loop-i l =
    (length l.ticks ≡ file_limits.marks)
    × (l.bad ≡ some (λ k. any_mark_fault (mark_faults (mark_at (marks_in l.marks.bytes.now) k))) l.i)
    × Filled 0 (tick_at (marks_in l.marks.bytes.now)) l.i l.ticks
