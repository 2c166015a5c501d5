use Rattle.std.proofs.Common.{rules}
use Rattle.products.specs.Products.{is_bond}
use Rattle.products.proofs.table.is_bond.Goals as goal

pub returns : goal.returns
unfolding is_bond
returns c = search rules
