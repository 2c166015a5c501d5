-- What holds of every line of the product table.
use Rattle.std.proofs.Common.{◌≡◌, ◌≤◌, Some, arith}
use Rattle.products.specs.Products.{products, find}
use Rattle.products.specs.declared.table.Code.{Code}
use Rattle.products.specs.declared.table.Product.{Product}
use Rattle.products.proofs.Finding.{Every, of_found}
use Rattle.pricing.specs.Sizes.{Modest}

-- modest terms and a tick of at most 100
pub record ModestLine (product : Product) : Type 0 where
  pub terms : Modest product.terms
  pub tick : product.tick ≤ 100

all_modest : Every ModestLine products
unfolding products
all_modest = search arith

pub modest_line : {product : Product} (a : Code) → find a ≡ Some product → ModestLine product
unfolding find
modest_line a e = of_found ModestLine products a all_modest e
