-- By whether k is 0, which names no correction; any other k names the one with the index k − 1.
use Rattle.std.proofs.Common.{arith}
use Rattle.dayfile.specs.Records.{corrections_in}
use Rattle.checks.specs.Corrections.{clashing}
use Rattle.numbers.proofs.Chain.{by_two}
use Rattle.checks.proofs.LastNumbers.{below_none, below_one}
use Rattle.checks.proofs.clashes.clashes_below.Goals as goal

pub returns-then-k-eq0 : goal.returns-then-k-eq0
returns-then-k-eq0 c = let a = c.args in below_none (corrections_in a.corrections.now) a.i a.k c.if-k-eq0.true

pub returns : goal.returns
returns c =
    let a = c.args in
    below_one (corrections_in a.corrections.now) a.i a.k c.from.result (omega (arith, c.from.ensures, c.if-k-eq0.false))
    (by_two clashing c.clash.ensures c.correction_at.ensures c.correction_at-2.ensures)
