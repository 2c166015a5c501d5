-- What is decided where check k alone is looked at is what check k finds.
use Rattle.std.proofs.Common.{◌≡◌, ◌∙◌, rules}
use Rattle.numbers.specs.Order.{found_in}
use Rattle.faults.specs.Faults.{said}
use Rattle.checks.proofs.Found.{found_by}
use Rattle.checks.proofs.finding.find.Goals as goal

pub returns : goal.returns
returns c =
    let index : c.map.result ≡ found_in (said c.look.result) = search rules in
    index ∙ found_by c.args.file.now c.args.k c.look.ensures
