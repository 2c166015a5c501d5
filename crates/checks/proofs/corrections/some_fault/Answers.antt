use Rattle.std.proofs.Common.{◌≡◌, length, rules}
use Rattle.dayfile.specs.Records.{marks_in, corrections_in, correction_at}
use Rattle.checks.specs.Faults.{correction_faults, any_correction_fault}
use Rattle.numbers.proofs.Searches.{some_start, some_next}
use Rattle.checks.proofs.corrections.some_fault.Goals as goal

pub loop-i-init : goal.loop-i-init
loop-i-init c = some_start _

pub loop-i-preserved : goal.loop-i-preserved
loop-i-preserved c =
    let at = c.loop-i in
    let ms = marks_in c.args.marks.marks.now in
    let cs = corrections_in c.args.corrections.now in
    let e : c.any_fault-bad.result ≡ any_correction_fault (correction_faults ms (correction_at cs at.i)) = search rules in
    some_next (λ k. any_correction_fault (correction_faults ms (correction_at cs k))) at.i at.invariant e

pub returns : goal.returns
returns c =
    let at = c.loop-i in
    let n : at.i ≡ length (corrections_in c.args.corrections.now) = search rules in
    rw (← n) at.invariant
