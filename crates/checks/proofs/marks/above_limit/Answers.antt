use Rattle.products.specs.Products.{price_limit}
use Rattle.std.proofs.Common.{rules}
use Rattle.checks.proofs.marks.above_limit.Goals as goal

pub returns : goal.returns
unfolding price_limit
returns c = search rules
