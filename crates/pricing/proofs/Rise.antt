-- A higher price never has a lower value.
use Prim.Native.Nat.{ℕ, ◌≤◌}
use native.Mathlib.Nat.{mul-le-mul_left, mul-le-mul_right, add-le-add, le_refl}
use native.Mathlib.Omega.{arith}
use lib.Dec.{lit<}
use Rattle.numbers.proofs.Rounding.{nearest_mono}
use Rattle.products.specs.Products.{price_limit}
use Rattle.pricing.specs.Prices.{yield_at}
use Rattle.pricing.specs.Value.{scale, bill_divisor, bond_divisor, value_by}
use Rattle.products.specs.declared.table.Terms.{Terms}
use Rattle.products.specs.declared.table.Terms.TheVariants.{Bill, Bond, CashRate}
use Rattle.pricing.proofs.Factors.{bracket_falls}
use Rattle.pricing.proofs.Bounds.{scale_positive}

-- for all three kinds, whatever their terms
pub value_by_rises : (t : Terms) {p p' : ℕ} → p ≤ p' → p' ≤ price_limit → value_by t p ≤ value_by t p'
unfolding value_by bill_divisor bond_divisor yield_at
value_by_rises (Bill face days) {p} {p'} h l =
    nearest_mono _ _ (bill_divisor days p') (bill_divisor days p) (omega arith) (le_refl _)
    (add-le-add (le_refl 365_000_000) (mul-le-mul_left days (omega arith)))
value_by_rises (Bond face c n) {p} {p'} h l =
    nearest_mono _ _ scale scale scale_positive
    (mul-le-mul_right face (bracket_falls scale (bond_divisor p') (bond_divisor p) scale_positive (omega arith) (omega arith) c n)) (le_refl scale)
value_by_rises (CashRate cents) {p} {p'} h l = nearest_mono _ _ 100 100 (lit< tt) (mul-le-mul_left cents h) (le_refl 100)
