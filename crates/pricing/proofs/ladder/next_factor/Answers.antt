use Rattle.std.proofs.Common.{rules}
use Rattle.pricing.specs.Value.{scale}
use Rattle.pricing.proofs.ladder.next_factor.Goals as goal

pub returns : goal.returns
unfolding scale
returns c = search rules
