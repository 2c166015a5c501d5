-- The value of one contract in cents, rounded as document 01 says, and exactly.
use Rattle.std.specs.Prelude.{ℕ, ◌+◌, ◌*◌, ◌^◌, Option, Some, None}
use Rattle.numbers.specs.Rounding.{nearest}
use Rattle.numbers.specs.Fractions.{Fraction, wholly}
use Rattle.pricing.specs.Prices.{yield_at, hundred_percent}
use Rattle.products.specs.Products.{find}
use Rattle.pricing.specs.Ladder.{base, bracket, whole_bracket}
use Rattle.products.specs.declared.table.Code.{Code}
use Rattle.products.specs.declared.table.Terms.{Terms}
use Rattle.products.specs.declared.table.Terms.TheVariants.{Bill, Bond, CashRate}
use Rattle.products.specs.declared.table.Product.{Product}

-- one, in the units of the bond ladder: eight decimals
unfoldable pub scale : ℕ
scale = 100_000_000

-- a bill is face times 365 over (365 + yield times days / 100), in cents: dividend and divisor, both times 1,000,000
unfoldable pub bill_dividend : ℕ → ℕ
bill_dividend face = face * 100 * 365 * hundred_percent

unfoldable pub bill_divisor : ℕ → ℕ → ℕ
bill_divisor days p = 365 * hundred_percent + days * yield_at p

-- 2,000,000 + Y
unfoldable pub bond_divisor : ℕ → ℕ
bond_divisor p = base + yield_at p

-- the value by the terms, at a price
unfoldable pub value_by : Terms → ℕ → ℕ
value_by (Bill face days) p = nearest (bill_dividend face) (bill_divisor days p)
value_by (Bond face c n) p = nearest (bracket scale c n (bond_divisor p) * face) scale
value_by (CashRate cents) p = nearest (cents * p) 100

-- the formula without any rounding
unfoldable pub exact_by : Terms → ℕ → Fraction
exact_by (Bill face days) p = record { num = bill_dividend face; den = bill_divisor days p }
exact_by (Bond face c n) p = record { num = whole_bracket c n (bond_divisor p) * face; den = bond_divisor p ^ n }
exact_by (CashRate cents) p = record { num = cents * p; den = 100 }

abbrev pub exact_in : Option Product → ℕ → Fraction
exact_in (Some product) p = exact_by product.terms p
exact_in None p = wholly 0

-- the exact value of the product that a code names
unfoldable pub exact_of : Code → ℕ → Fraction
exact_of code p = exact_in (find code) p
