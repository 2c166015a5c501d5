-- Each position is looked at by the numbers that its bytes have.
use Rattle.std.proofs.Common.{◌≡◌, length, rules}
use Rattle.dayfile.specs.Records.{marks_in, positions_in, position_at}
use Rattle.checks.specs.Faults.{position_faults, any_position_fault}
use Rattle.numbers.proofs.Searches.{some_start, some_next}
use Rattle.checks.proofs.positions.some_fault.Goals as goal

pub loop-i-init : goal.loop-i-init
loop-i-init c = some_start _

pub loop-i-preserved : goal.loop-i-preserved
loop-i-preserved c =
    let at = c.loop-i in
    let ms = marks_in c.args.marks.bytes.now in
    let ps = positions_in c.args.positions.now in
    let e : c.any_fault-bad.result ≡ any_position_fault (position_faults ms (position_at ps at.i)) = search rules in
    some_next (λ k. any_position_fault (position_faults ms (position_at ps k))) at.i at.invariant e

pub returns : goal.returns
returns c =
    let at = c.loop-i in
    let n : at.i ≡ length (positions_in c.args.positions.now) = search rules in
    rw (← n) at.invariant
