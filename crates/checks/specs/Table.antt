-- What the checks ask of the product table, and the price limit.
use Rattle.std.specs.Prelude.{ℕ, Bool, true, false, nat_lt, Option, Some, None}
use Rattle.products.specs.Products.{price_limit, find, has_month}
use Rattle.products.specs.declared.table.Code.{Code}
use Rattle.products.specs.declared.table.Product.{Product}

abbrev pub listed_in : Option Product → Bool
listed_in (Some product) = true
listed_in None = false

abbrev pub has_month_in : Option Product → ℕ → Bool
has_month_in (Some product) m = has_month product m
has_month_in None m = false

-- a tick, 1 where there is no product
abbrev pub tick_in : Option Product → ℕ
tick_in (Some product) = product.tick
tick_in None = 1

-- a price is above the highest one
abbrev pub above_limit : ℕ → Bool
above_limit p = nat_lt price_limit p

-- the product table has the code
unfoldable pub listed : Code → Bool
listed a = listed_in (find a)

-- a month is one of the product's
unfoldable pub code_has_month : Code → ℕ → Bool
code_has_month a m = has_month_in (find a) m

-- the product's tick
unfoldable pub tick_of : Code → ℕ
tick_of a = tick_in (find a)
