use Rattle.std.proofs.Common.{◌<◌, refl, ap, ◌∙◌, arith, length-set}
use Rattle.numbers.proofs.Filled.{filled_none, filled_more}
use Rattle.dayfile.specs.Limits.{file_limits}
use Rattle.dayfile.specs.declared.records.Mark.{Mark}
use Rattle.products.specs.Products.{currency_of}
use Rattle.settlement.proofs.amounts.currencies.Goals as goal

pub loop-m-init : goal.loop-m-init
loop-m-init c = (refl, filled_none)

pub loop-m-preserved : goal.loop-m-preserved
loop-m-preserved c =
    let at = c.loop-m.invariant in
    let few : c.loop-m.m < file_limits.marks = omega (arith, c.mark_count-m-end.ensures, c.args.marks.few) in (
      simp length-set at.0,
      filled_more (rw at.0 few) (c.currency_of.ensures ∙ ap (λ (m : Mark). currency_of m.code) c.mark_at.ensures) at.1,
    )
