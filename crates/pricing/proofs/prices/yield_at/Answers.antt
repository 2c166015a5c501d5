use Rattle.std.proofs.Common.{arith, rules}
use Rattle.products.specs.Products.{price_limit}
use Rattle.pricing.specs.Prices.{yield_at, par}
use Rattle.pricing.proofs.prices.yield_at.Goals as goal

pub overflow_sub-result : goal.overflow_sub-result
unfolding price_limit
overflow_sub-result c = omega arith

pub returns-clause-value : goal.returns-clause-value
unfolding yield_at par
returns-clause-value c = search rules
