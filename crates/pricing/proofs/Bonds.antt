-- The bracket of each bond in the product table, and how far it lies from the exact one.
use Rattle.std.proofs.Common.{Option, Some, None}
use mathlib.Core.Path.{◌≡◌, refl}
use Prim.Native.Nat.{ℕ, ◌*◌, ◌^◌, ◌≤◌}
use native.Mathlib.Nat.{le_refl}
use lib.Dec.{lit≤}
use Rattle.numbers.specs.Nearness.{Near}
use Rattle.numbers.proofs.Nearness.{near_as}
use Rattle.products.specs.Products.{products, find}
use Rattle.pricing.specs.Ladder.{bracket, whole_bracket}
use Rattle.pricing.specs.Value.{scale, bond_divisor}
use Rattle.pricing.specs.Calls.{given, of_product, of_bond, at_price, bracket_of}
use Rattle.pricing.specs.Accuracy.{twice_distance}
use Rattle.products.specs.declared.table.Code.{Code}
use Rattle.products.specs.declared.table.Product.{Product}
use Rattle.products.specs.declared.table.Terms.{Terms}
use Rattle.products.specs.declared.table.Terms.TheVariants.{Bill, Bond, CashRate}
use Rattle.pricing.proofs.Distance.{ladder_distance}
use Rattle.products.proofs.Finding.{Every, of_found}
use Rattle.pricing.proofs.Bounds.{scale_positive, bond_divisor_lem}
use Rattle.pricing.proofs.Answers.{Listed, not-given, after-price}

-- the bracket b of a bond at a price within the limit and on the tick
pub record Bracketed (code : Code) (p b : ℕ) : Type 0 where
  pub product : Product
  pub found : find code ≡ Some product
  pub listed : Listed product p
  pub face : ℕ
  pub coupon : ℕ
  pub halves : ℕ
  pub terms : product.terms ≡ Bond face coupon halves
  pub is : bracket scale coupon halves (bond_divisor p) ≡ b

module _ (code : Code) (p : ℕ) {b : ℕ} where
  of_terms : (product : Product) → find code ≡ Some product → (t : Terms) → product.terms ≡ t
      → of_bond t (λ c n. at_price product.tick p (given (bracket scale c n (bond_divisor p)))) ≡ given b → Bracketed code p b
  of_terms product f (Bill face days) t e = not-given e
  of_terms product f (Bond face c n) t e =
      let (w, m, is) = after-price product.tick p e in
      record {
        product = product;
        found = f;
        listed = record { within = w; on_tick = m };
        face = face;
        coupon = c;
        halves = n;
        terms = t;
        is = cc;
      }
  of_terms product f (CashRate cents) t e = not-given e

  of_lookup : (f : Option Product) → find code ≡ f
      → of_product f (λ product. of_bond product.terms (λ c n. at_price product.tick p (given (bracket scale c n (bond_divisor p))))) ≡ given b → Bracketed code p b
  of_lookup (Some product) f e = of_terms product f product.terms refl e
  of_lookup None f e = not-given e

  pub bracketed : bracket_of code p ≡ given b → Bracketed code p b
  unfolding bracket_of
  bracketed e = of_lookup (find code) refl e

-- a bond of the table has a half year or more
HasHalves : Terms → Type 0
HasHalves (Bill face days) = Unit {0}
HasHalves (Bond face c n) = 1 ≤ n
HasHalves (CashRate cents) = Unit {0}

all_have_halves : Every (λ product. HasHalves product.terms) products
unfolding HasHalves products
all_have_halves = (tt, (tt, (tt, (lit≤ tt, (lit≤ tt, (lit≤ tt, tt))))))

pub bracket_near : (code : Code) (p : ℕ) {b : ℕ} (h : Bracketed code p b)
    → Near (2 * (b * bond_divisor p ^ h.halves)) (2 * (scale * whole_bracket h.coupon h.halves (bond_divisor p)))
    (twice_distance h.coupon h.halves * bond_divisor p ^ h.halves)
unfolding find HasHalves
bracket_near code p h =
    let n = rw h.terms at (of_found (λ product. HasHalves product.terms) products code all_have_halves h.found) in
    near_as (ladder_distance scale h.coupon h.halves (bond_divisor p) scale_positive n (bond_divisor_lem h.listed.within).0)
    (rw (← h.is)) refl (le_refl _)
