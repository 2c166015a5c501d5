-- At each line a search from it on finds what a search of the whole table finds.
use mathlib.Core.Path.{◌≡◌}
use lib.ListN.{drop}
use Rattle.products.specs.Products.{products, find_in, find}
use Rattle.products.proofs.table.lookup.Given as goal

abbrev pub invariant-loop-product : goal.invariant-loop-product
invariant-loop-product l = find_in (drop l.product-index products) l.code ≡ find l.code
