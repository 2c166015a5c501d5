use Rattle.std.proofs.Common.{refl}
use Rattle.settlement.specs.SettlingSteps.{blank}
use Rattle.settlement.proofs.groups.Changes.none.Goals as goal

pub returns : goal.returns
unfolding blank
returns c = (refl, refl)
