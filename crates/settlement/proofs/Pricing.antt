-- What settlement knows of the product table and of the pricing part.
use Rattle.std.proofs.Common.{Option, Some, None}
use mathlib.Core.Path.{◌≡◌, refl}
use Prim.Native.Nat.{ℕ, ◌%◌, ◌≤◌}
use native.Mathlib.Omega.{arith}
use Rattle.pricing.specs.Calls.{Answer, given, refused, value_of}
use Rattle.products.specs.Products.{find, price_limit}
use Rattle.products.specs.declared.table.Code.{Code}
use Rattle.pricing.proofs.Promises as pricing
use mathlib.Core.Bool.{true}
use Rattle.pricing.specs.Sizes.{value_cap}
use Rattle.checks.specs.Table.{listed, listed_in, tick_of, tick_in}
use Rattle.pricing.specs.Calls.{or_zero}
use Rattle.settlement.specs.ContractValue.{value_or_zero}
use Rattle.numbers.proofs.Truth.{not_both}
use Rattle.products.specs.declared.table.Product.{Product}

by_answer : (a : Code) (p : ℕ) (x : Answer) → value_of a p ≡ x → or_zero x ≤ value_cap
by_answer a p (given n) e = pricing.value_cap_lem a p e
by_answer a p (refused k i) e = omega arith

pub value_bound : (a : Code) (p : ℕ) → value_or_zero a p ≤ value_cap
unfolding value_or_zero
value_bound a p = by_answer a p (value_of a p) refl

-- from what pricing answered
pub by_value_or_zero : (a : Code) (p : ℕ) {n : ℕ} → n ≡ or_zero (value_of a p) → (n ≡ value_or_zero a p) × (n ≤ value_cap)
unfolding value_or_zero
by_value_or_zero a p e = (e, rw e (by_answer a p (value_of a p) refl))

-- a price that is allowed for a product has a value
pub valued : (a : Code) (p : ℕ) → listed a ≡ true → p ≤ price_limit → p % tick_of a ≡ 0 → (n : ℕ) × (value_of a p ≡ given n)
unfolding listed tick_of
valued a p h low on = by_found (find a) refl h on
  where
    by_found : (o : Option Product) → find a ≡ o → listed_in o ≡ true → p % tick_in o ≡ 0 → (n : ℕ) × (value_of a p ≡ given n)
    by_found (Some product) e h on = (_, pricing.value_given a e low on)
    by_found None e h on = not_both h refl

pub value_or_zero-is : (a : Code) (p : ℕ) {n : ℕ} → value_of a p ≡ given n → value_or_zero a p ≡ n
unfolding value_or_zero
value_or_zero-is a p e = rw e
