-- What is promised of the product table, as document 01 lists it.
use Rattle.std.proofs.Common.{Option, Some, None}
use mathlib.Core.Path.{◌≡◌, refl}
use mathlib.Core.Bool.{true}
use mathlib.Core.List.{[], ◌∷◌, map, Memᴰ}
use mathlib.Core.Logic.{◌↔◌}
use Prim.Native.Nat.{ℕ, ◌<◌}
use native.Mathlib.Omega.{arith}
use Rattle.products.specs.Products.{IR, BB, IB, YT, XT, XX, products, same_code, find_in, find, Unlisted, currency_of, has_month, months_below, months_of}
use Rattle.products.specs.declared.table.Code.{Code}
use Rattle.products.specs.declared.table.Currency.TheVariants.{Aud, Nzd}
use Rattle.products.specs.declared.table.Product.{Product}
use Rattle.products.proofs.Finding.{Every, of_found, found_member, found-code, missing-none}
use Rattle.products.proofs.Months as months

-- The product that a code names is a line of the table with that code.
pub found-line : (code : Code) {product : Product} → find code ≡ Some product → Memᴰ product products × (product.code ≡ code)
found-line code e = (found_member code e, found-code code e)

-- Each line is the product that its code names.
pub lines_found : map (λ product. find product.code) products ≡ map Some products
unfolding products same_code find_in find
lines_found = refl

-- A code names no product exactly where no line has it.
pub none_found : (code : Code) → (find code ≡ None) ↔ Unlisted code
none_found code = (missing-none code, λ h. by_found (find code) refl h)
  where
    by_found : (f : Option Product) → find code ≡ f → Unlisted code → f ≡ None
    by_found (Some product) e h = absurd (h product (found_member code e) (found-code code e))
    by_found None e h = refl

-- The codes, ticks, currencies and months of the six lines.
pub codes_are : map (λ product. product.code) products ≡ IR ∷ BB ∷ IB ∷ YT ∷ XT ∷ XX ∷ []
unfolding products
codes_are = refl

pub ticks_are : map (λ product. product.tick) products ≡ 100 ∷ 100 ∷ 50 ∷ 50 ∷ 50 ∷ 50 ∷ []
unfolding products
ticks_are = refl

pub currencies_are : map (λ product. currency_of product.code) products ≡ Aud ∷ Nzd ∷ Aud ∷ Aud ∷ Aud ∷ Aud ∷ []
unfolding products same_code find_in find currency_of
currencies_are = refl

pub months_are : map months_of products
    ≡ (3 ∷ 6 ∷ 9 ∷ 12 ∷ []) ∷ (3 ∷ 6 ∷ 9 ∷ 12 ∷ []) ∷ (1 ∷ 2 ∷ 3 ∷ 4 ∷ 5 ∷ 6 ∷ 7 ∷ 8 ∷ 9 ∷ 10 ∷ 11 ∷ 12 ∷ [])
    ∷ (3 ∷ 6 ∷ 9 ∷ 12 ∷ []) ∷ (3 ∷ 6 ∷ 9 ∷ 12 ∷ []) ∷ (3 ∷ 6 ∷ 9 ∷ 12 ∷ []) ∷ []
unfolding months_below products has_month
months_are = refl

-- The test of a month says yes exactly for the product's months.
pub month_exactly : (product : Product) (m : ℕ) → (has_month product m ≡ true) ↔ Memᴰ m (months_of product)
month_exactly = months.month_exactly

-- A product's tick is positive.
all_positive : Every (λ product. 0 < product.tick) products
unfolding products
all_positive = search arith

pub tick_positive : (code : Code) {product : Product} → find code ≡ Some product → 0 < product.tick
unfolding find
tick_positive code f = of_found (λ product. 0 < product.tick) products code all_positive f
