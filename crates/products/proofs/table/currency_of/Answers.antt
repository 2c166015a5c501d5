use Rattle.std.proofs.Common.{rules}
use Rattle.products.specs.Products.{currency_of}
use Rattle.products.proofs.table.currency_of.Goals as goal

pub returns : goal.returns
unfolding currency_of
returns c = search rules
