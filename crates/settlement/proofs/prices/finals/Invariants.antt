-- After k corrections each mark has the price and the number of the highest-numbered one among them that names it, else today's price and 0.
use Rattle.std.proofs.Common.{◌≡◌, length}
use Rattle.dayfile.specs.Limits.{file_limits}
use Rattle.dayfile.specs.Records.{marks_in, corrections_in}
use Rattle.settlement.proofs.HighestNumbered.{Standing}
use Rattle.settlement.proofs.prices.finals.Given as goal

abbrev pub invariant-loop-k : goal.invariant-loop-k
invariant-loop-k l =
    (length l.number ≡ file_limits.marks) × Standing (marks_in l.marks.bytes.now) (corrections_in l.corrections) l.n l.k l.number l.price
