-- By the room: a text that does not fit leaves the buffer as it is, and one that fits stands at its start.
use Rattle.text.proofs.Writing.{wrote_no_room, wrote_fitted, copied}
use native.Mathlib.Omega.{arith}
use Rattle.text.proofs.copying.write_text.Goals as goal

pub returns-then-out-text : goal.returns-then-out-text
returns-then-out-text c = wrote_no_room _ _ (omega arith)

pub returns : goal.returns
returns c =
    let a = c.args in
    let at = c.loop-i in
    wrote_fitted (omega arith) (copied a.text.now a.out.now (omega arith) at.invariant (omega arith))
