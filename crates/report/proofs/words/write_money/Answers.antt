use native.Mathlib.Nat.{add-sub_cancel_left}
use mir.Facts.{to_z-of_z}
use mir.Syntax.{w64}
use Rattle.report.specs.Writers.{end_in}
use Rattle.text.proofs.Writing.{fitted_writes, writes_then}
use Rattle.report.proofs.words.write_money.Goals as goal

pub returns : goal.returns
returns c =
    writes_then (rw (to_z-of_z {w = w64} c.ranges.amount) at c.write_cents-currency_at.ensures)
    (fitted_writes (end_in c.args.w.words.now c.args.w.at) (rw add-sub_cancel_left at c.write_text.ensures))
