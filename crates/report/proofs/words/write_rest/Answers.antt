-- The text has at least twelve bytes, and with room for fewer none is written. Else the fields stand in the twelve that are copied, and the
-- amount with its currency covers the others.
use native.Mathlib.Nat.{add-sub_cancel_left}
use native.Mathlib.Omega.{arith}
use mir.Facts.{to_z-of_z}
use mir.Syntax.{w64}
use Rattle.report.proofs.MarkWords.{no_room, rest-written}
use Rattle.report.proofs.words.write_rest.Goals as goal

pub returns-then-out-lt12 : goal.returns-then-out-lt12
returns-then-out-lt12 c =
    no_room c.args.w.words.now c.args.w.at c.args.w.whole c.args.amount _ (omega arith)

pub returns : goal.returns
returns c =
    rw c.from-k.ensures
    (rest-written c.args.w.words.now c.args.w.at c.args.w.whole c.args.amount (omega arith)
    (rw add-sub_cancel_left at c.write_text.ensures)
    (rw (c.from-k.ensures, to_z-of_z {w = w64} c.ranges.amount) at c.write_money.ensures))
