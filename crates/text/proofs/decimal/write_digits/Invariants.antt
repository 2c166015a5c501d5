-- At each step the buffer with the figures of the rest written to its start, the last in the place i, is the finished one:
-- the last two figures are stored, and the rest's hundredth is left.
use mathlib.Core.Path.{◌≡◌}
use Prim.Native.Nat.{◌<◌}
use lib.ListN.{length}
use Rattle.text.specs.Writing.{over}
use Rattle.text.specs.Table.{decimal_by}
use Rattle.text.proofs.Table.{Left}
use Rattle.text.proofs.decimal.write_digits.Given as goal

abbrev pub invariant-loop-rest : goal.invariant-loop-rest
invariant-loop-rest l = (length l.out ≡ length l.initial.out) × (l.i < length l.initial.out) × Left l.pairs l.rest l.i l.out (over (decimal_by l.pairs l.n) l.initial.out)

abbrev pub decreases-loop-rest : goal.decreases-loop-rest
decreases-loop-rest l = l.rest
