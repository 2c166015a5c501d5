-- By the room: a number has as many figures as digits, so that its width tells whether they fit.
use Rattle.text.proofs.Writing.{wrote_no_room, wrote_fitted}
use Rattle.text.specs.Table.{decimal_by}
use Rattle.text.proofs.Table.{by_length}
use native.Mathlib.Omega.{arith}
use Rattle.text.proofs.decimal.write_decimal.Goals as goal

pub returns-then-out-k : goal.returns-then-out-k
returns-then-out-k c = let s = c.args in wrote_no_room (decimal_by _ _) _ (omega (arith, by_length s.pairs.now s.n))

pub returns : goal.returns
returns c =
    let s = c.args in
    wrote_fitted (omega (arith, by_length s.pairs.now s.n)) c.write_digits.ensures
