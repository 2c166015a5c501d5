-- The code's table is the specified one, line for line.
use Rattle.std.proofs.Common.{refl}
use Rattle.products.specs.Products.{products}
use Rattle.products.proofs.table.lines.Goals as goal

pub returns : goal.returns
unfolding products
returns c = refl
