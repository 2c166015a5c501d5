-- By whether a record is as long as its key; where it is, its size is not 0, since every key has bytes, and the records can be counted.
use Rattle.std.proofs.Common.{◌∙◌, arith}
use Rattle.pairs.proofs.Records.{looked-none, looked-some}
use Rattle.pairs.proofs.Least.{min-least}
use Rattle.pairs.proofs.Rooms.{width_pos}
use Rattle.pairs.proofs.keys.looked_at.Goals as goal

pub nonzero_div-bytes : goal.nonzero_div-bytes
nonzero_div-bytes c = omega (arith, width_pos c.args.key, c.width.ensures)

pub returns-then-size-width : goal.returns-then-size-width
returns-then-size-width c = looked-none _ _ _ (rw c.width.ensures at c.if-size-width.true)

pub returns-else-size-width : goal.returns-else-size-width
returns-else-size-width c = looked-some _ _ _ (rw c.width.ensures at c.if-size-width.false) (c.min.ensures ∙ min-least _ _)
