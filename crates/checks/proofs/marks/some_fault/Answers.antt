use Rattle.std.proofs.Common.{◌≡◌, ◌<◌, length, ap, ◌∙◌, arith, length-set, rules}
use Rattle.dayfile.specs.Records.{marks_in, mark_at}
use Rattle.checks.specs.Faults.{mark_faults, any_mark_fault}
use Rattle.checks.specs.declared.marks.MarkFaults.{MarkFaults}
use Rattle.numbers.proofs.Filled.{filled_none, filled_more}
use Rattle.numbers.proofs.Searches.{some_start, some_next}
use Rattle.checks.proofs.marks.some_fault.Goals as goal

pub loop-i-init : goal.loop-i-init
loop-i-init c = (c.told-ticks, some_start _, filled_none)

pub loop-i-preserved : goal.loop-i-preserved
loop-i-preserved c =
    let at = c.loop-i in
    let ms = marks_in c.args.marks.bytes.now in
    let l = c.faults-of_mark.ensures ∙ ap mark_faults c.mark_at.ensures in
    let h : at.i < length at.ticks = omega (arith, c.loop-i-test.true, c.mark_count-i-end.ensures, c.args.marks.few, at.invariant.0) in (
      simp length-set at.invariant.0,
      some_next (λ k. any_mark_fault (mark_faults (mark_at ms k))) at.i at.invariant.1 (c.any_fault-bad.ensures ∙ ap any_mark_fault l),
      filled_more h (ap (λ (x : MarkFaults). x.tick) l) at.invariant.2,
    )

pub returns : goal.returns
returns c =
    let at = c.loop-i in
    let n : at.i ≡ length (marks_in c.args.marks.bytes.now) = search rules in
    (rw (← n) at.invariant.1, record { few = c.args.marks.few; ticks = rw (← n) at.invariant.2 })
