use native.Mathlib.Omega.{arith}
use mathlib.Core.Path.{◌≡◌}
use mir.Facts.{to_z-of_z}
use mir.Syntax.{w64}
use mir.Val.{SFits}
use borrow.Author.Rules.{rules}
use lib.IntN.{ℤ}
use lib.ListN.{length}
use Rattle.numbers.specs.Integers.{entry_of}
use Rattle.text.specs.Writing.{texts}
use Rattle.text.proofs.Writing.{writes_none, writes_as, writes_more}
use Rattle.report.proofs.MarkWords.{words_here, line-here}
use Rattle.report.proofs.positions.write_positions.Goals as goal

pub loop-i-init : goal.loop-i-init
unfolding texts
loop-i-init c = writes_none _

pub write_line-at-requires : goal.write_line-at-requires
write_line-at-requires c =
    rw c.position_at-p.ensures
    (words_here c.args.marks.now (λ i. omega (arith, c.type_inv.marks i))
    (omega arith) c.write_words.ensures _ (c.requires.1 c.loop-i.i (omega arith)))

pub loop-i-preserved : goal.loop-i-preserved
loop-i-preserved c =
    let amount : ℤ = entry_of c.args.amounts.now c.loop-i.i in
    let fit : SFits w64 amount = search rules in
    writes_more _ c.loop-i.i c.loop-i.invariant (writes_as
    (line-here c.args.marks.now (λ i. omega (arith, c.type_inv.marks i))
    (omega arith) c.write_words.ensures
    _ (c.requires.1 c.loop-i.i (omega arith)) _ _)
    (rw (c.position_at-p.ensures, to_z-of_z {w = w64} {z = amount} fit) at c.write_line-at.ensures))

pub returns : goal.returns
returns c =
    let e : c.loop-i.i ≡ length c.args.amounts.now = omega arith in rw (← e) c.loop-i.invariant
