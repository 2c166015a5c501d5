use Rattle.std.proofs.Common.{◌≡◌, ◌<◌, length, add-one, rules}
use Rattle.dayfile.specs.Records.{corrections_in}
use Rattle.checks.proofs.LastNumbers.{repeats}
use Rattle.checks.proofs.clashes.resent_count.Goals as goal

pub loop-i-preserved : goal.loop-i-preserved
loop-i-preserved c =
    let at = c.loop-i in
    let cs = corrections_in c.args.corrections.now in
    let inside : at.i < length cs = search rules in
    let same = repeats cs c.requires inside in
    (search rules, search (rules, add-one, same))

pub returns : goal.returns
returns c =
    let n : c.loop-i.i ≡ length (corrections_in c.args.corrections.now) = search rules in
    rw (← n) c.loop-i.invariant.1
