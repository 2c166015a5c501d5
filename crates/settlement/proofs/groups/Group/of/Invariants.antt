-- At mark j all four places name marks of the product of mark i, the first of them i itself; a store at a later place keeps that.
use Rattle.std.proofs.Common.{◌≤◌, length}
use Rattle.dayfile.specs.Records.{marks_in}
use Rattle.settlement.specs.Groups.{group_size, Grouped}
use Rattle.settlement.proofs.groups.Group.of.Given as goal

abbrev pub invariant-loop-j : goal.invariant-loop-j
invariant-loop-j l = (1 ≤ l.count) × (l.count ≤ group_size) × Grouped (marks_in l.marks.bytes.now) (length (marks_in l.marks.bytes.now)) l.i l.g
