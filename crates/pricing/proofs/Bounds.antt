-- How large the steps of a value get, and that no value is above 500,000,000 cents.
use Prim.Native.Nat.{ℕ, ◌*◌, ◌≤◌, ◌<◌}
use native.Mathlib.Nat.{le_trans, le_refl, mul-le-mul, mul-le-mul_right}
use native.Mathlib.Omega.{arith}
use lib.Dec.{lit<, lit≤}
use Rattle.numbers.specs.Rounding.{nearest}
use Rattle.numbers.proofs.Rounding.{nearest_mono}
use Rattle.products.specs.Products.{price_limit}
use Rattle.pricing.specs.Prices.{par, yield_at}
use Rattle.pricing.specs.Ladder.{base, first_factor, factor, annuity, bracket}
use Rattle.pricing.specs.Value.{scale, bill_dividend, bill_divisor, bond_divisor, value_by}
use Rattle.pricing.specs.Sizes.{value_cap, Modest}
use Rattle.products.specs.declared.table.Terms.{Terms}
use Rattle.products.specs.declared.table.Terms.TheVariants.{Bill, Bond, CashRate}
use Rattle.pricing.proofs.Factors.{first_below, factor-below, annuity-below}

pub scale_positive : 0 < scale
unfolding scale
scale_positive = lit< tt

-- the divisor of a bond at a price within the limit
pub bond_divisor_lem : {p : ℕ} → p ≤ price_limit → (base ≤ bond_divisor p) × (bond_divisor p ≤ 3_000_000)
unfolding bond_divisor yield_at par price_limit
bond_divisor_lem h = omega arith

-- the divisor of a bill is positive
pub bill_divisor_lem : (days p : ℕ) → 0 < bill_divisor days p
unfolding bill_divisor
bill_divisor_lem days p = omega arith

-- V1 is at most one whole, and so is every Vk
pub first_cap : {p : ℕ} → p ≤ price_limit → first_factor scale (bond_divisor p) ≤ scale
first_cap {p} h = first_below scale (bond_divisor p) (bond_divisor_lem h).0

pub factor_cap : {p : ℕ} → p ≤ price_limit → (k : ℕ) → factor scale (bond_divisor p) k ≤ scale
factor_cap {p} h k = factor-below scale (bond_divisor p) scale_positive (bond_divisor_lem h).0 k

pub annuity_cap : {p : ℕ} → p ≤ price_limit → (n : ℕ) → annuity scale (bond_divisor p) n ≤ n * scale
annuity_cap {p} h n = annuity-below scale (bond_divisor p) n scale_positive (bond_divisor_lem h).0

-- the bracket of a bond with c up to 3 and n up to 40
pub bracket_cap : {c n p : ℕ} → p ≤ price_limit → c ≤ 3 → n ≤ 40 → bracket scale c n (bond_divisor p) ≤ 440_000_000_000
unfolding bracket scale
bracket_cap {c} {n} {p} h hc hn =
    omega (arith, mul-le-mul hc (le_trans (annuity_cap h n) (mul-le-mul_right scale hn)), factor_cap h n)

-- no value is above 500,000,000 cents
pub value_by_cap : {p : ℕ} → p ≤ price_limit → (t : Terms) → Modest t → value_by t p ≤ value_cap
unfolding value_by bill_dividend bill_divisor yield_at par price_limit scale nearest
value_by_cap {p} h (Bill face days) s =
    le_trans (nearest_mono (bill_dividend face) (1_000_000 * 100 * 365 * 1_000_000) 365_000_000 (bill_divisor days p) (lit< tt) (omega (arith, s.0)) (omega arith)) (lit≤ tt)
value_by_cap {p} h (Bond face c n) s =
    le_trans (nearest_mono _ (440_000_000_000 * 100_000) scale scale scale_positive (mul-le-mul (bracket_cap h s.1 s.3) s.0) (le_refl scale)) (lit≤ tt)
value_by_cap {p} h (CashRate cents) s =
    le_trans (nearest_mono _ (10_000 * 1_000_000) 100 100 (lit< tt) (mul-le-mul s h) (le_refl 100)) (lit≤ tt)
