-- The product table, and the product that a code names.
use Rattle.std.specs.Prelude.{ℕ, zero, suc, ◌+◌, ◌/◌, ◌%◌, ◌^◌, ◌≡◌, Bool, true, false, cond, ◌&&◌, eqb, ltb, Option, Some, None}
use mathlib.Core.List.{List, [], ◌∷◌, ◌++◌, Memᴰ}
use Rattle.products.specs.declared.table.Code.{Code}
use Rattle.products.specs.declared.table.Currency.{Currency}
use Rattle.products.specs.declared.table.Currency.TheVariants.{Aud, Nzd}
use Rattle.products.specs.declared.table.Product.{Product}
use Rattle.products.specs.declared.table.Terms.{Terms}
use Rattle.products.specs.declared.table.Terms.TheVariants.{Bill, Bond, CashRate}

-- the highest price, in units of 0.0001
unfoldable pub price_limit : ℕ
price_limit = 1_000_000

-- a list of months as one number, which has the bit m for each month m
abbrev pub month_bits : List ℕ → ℕ
month_bits [] = 0
month_bits (m ∷ ms) = 2 ^ m + month_bits ms

abbrev pub quarterly : ℕ
quarterly = month_bits (3 ∷ 6 ∷ 9 ∷ 12 ∷ [])

abbrev pub monthly : ℕ
monthly = month_bits (1 ∷ 2 ∷ 3 ∷ 4 ∷ 5 ∷ 6 ∷ 7 ∷ 8 ∷ 9 ∷ 10 ∷ 11 ∷ 12 ∷ [])

-- the codes: two capital ASCII letters (B 66, I 73, R 82, T 84, X 88, Y 89)
abbrev pub IR : Code
IR = (73, 82)

abbrev pub BB : Code
BB = (66, 66)

abbrev pub IB : Code
IB = (73, 66)

abbrev pub YT : Code
YT = (89, 84)

abbrev pub XT : Code
XT = (88, 84)

abbrev pub XX : Code
XX = (88, 88)

-- the six lines: a bill has its face and its days; a bond its face, half coupon c and half years n;
-- a cash rate contract its cents for each 0.01
unfoldable pub products : List Product
products =
    record { code = IR; terms = Bill 1_000_000 90; currency = Aud; tick = 100; months = quarterly }
    ∷ record { code = BB; terms = Bill 1_000_000 90; currency = Nzd; tick = 100; months = quarterly }
    ∷ record { code = IB; terms = CashRate 2_466; currency = Aud; tick = 50; months = monthly }
    ∷ record { code = YT; terms = Bond 100_000 3 6; currency = Aud; tick = 50; months = quarterly }
    ∷ record { code = XT; terms = Bond 100_000 3 20; currency = Aud; tick = 50; months = quarterly }
    ∷ record { code = XX; terms = Bond 50_000 2 40; currency = Aud; tick = 50; months = quarterly }
    ∷ []

-- what stands past the table's end
unfoldable pub no_product : Product
no_product = record { code = (0, 0); terms = Bill 0 0; currency = Aud; tick = 0; months = 0 }

-- two codes have the same letters
unfoldable pub same_code : Code → Code → Bool
same_code a b = eqb a.0 b.0 && eqb a.1 b.1

-- the first line of a table that a code names
unfoldable pub find_in : List Product → Code → Option Product
find_in [] a = None
find_in (product ∷ rest) a = cond (same_code a product.code) (Some product) (find_in rest a)

unfoldable pub find : Code → Option Product
find a = find_in products a

-- no line of the product table has the code
abbrev pub Unlisted : Code → Type 0
Unlisted code = (product : Product) → Memᴰ product products → ¬ (product.code ≡ code)

-- the product's currency, Australian where there is no product
abbrev pub currency_in : Option Product → Currency
currency_in (Some product) = product.currency
currency_in None = Aud

unfoldable pub currency_of : Code → Currency
currency_of a = currency_in (find a)

-- terms are a bond's, and a code names a bond
abbrev pub bond_terms : Terms → Bool
bond_terms (Bill face days) = false
bond_terms (Bond face c n) = true
bond_terms (CashRate cents) = false

abbrev pub bond_in : Option Product → Bool
bond_in (Some product) = bond_terms product.terms
bond_in None = false

unfoldable pub is_bond : Code → Bool
is_bond a = bond_in (find a)

-- a month is one of the product's
unfoldable pub has_month : Product → ℕ → Bool
has_month product m = ltb m 16 && eqb (product.months / 2 ^ m % 2) 1

-- the product's months below n, and all of them: the months of a line have fewer than sixteen bits
unfoldable pub months_below : ℕ → Product → List ℕ
months_below zero product = []
months_below (suc n) product = months_below n product ++ cond (has_month product n) (n ∷ []) []

abbrev pub months_of : Product → List ℕ
months_of product = months_below 16 product
