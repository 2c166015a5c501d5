use Rattle.pricing.specs.Value.{bill_dividend, bill_divisor, value_by}
use Rattle.pricing.proofs.values.bill_at.Goals as goal

pub returns : goal.returns
unfolding value_by bill_dividend bill_divisor
returns c = rw c.yield_at.ensures.value at c.rounded.ensures
