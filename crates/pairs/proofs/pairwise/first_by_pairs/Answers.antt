use Rattle.std.proofs.Common.{sym}
use Rattle.numbers.proofs.Searches.{first-none, first_more, first-here}
use Rattle.pairs.proofs.pairwise.first_by_pairs.Goals as goal

pub loop-i-init : goal.loop-i-init
loop-i-init c = first-none _

pub returns-then-repeats : goal.returns-then-repeats
returns-then-repeats c =
    let at = c.loop-i in
    sym (first-here _ _ at.i c.loop-i-test.true at.invariant c.repeats.ensures c.if-repeats.true)

pub loop-i-preserved : goal.loop-i-preserved
loop-i-preserved c = let at = c.loop-i in first_more _ at.i at.invariant c.repeats.ensures c.if-repeats.false
