use Rattle.pricing.specs.Value.{value_by}
use Rattle.pricing.proofs.values.cash_at.Goals as goal

pub returns : goal.returns
unfolding value_by
returns c = rw c.from.ensures at c.rounded.ensures
