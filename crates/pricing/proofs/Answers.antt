-- What an answer of a single-contract call says of the code and the price.
use Rattle.std.proofs.Common.{Option, Some, None}
use mathlib.Core.Path.{◌≡◌, refl}
use mathlib.Core.Bool.{Bool, true, false}
use Prim.Native.Nat.{ℕ, ◌+◌, ◌-◌, ◌%◌, ◌≤◌}
use borrow.Author.Tests.{le-leb, eq-eqb, leb-true, eqb-true}
use lib.Dec.{leb, eqb}
use Rattle.products.specs.Products.{price_limit, find}
use Rattle.pricing.specs.Value.{value_by, exact_by, exact_of}
use Rattle.pricing.specs.Calls.{Answer, given, refused, check, of_product, at_price, value_of, tick_value_of}
use Rattle.products.specs.declared.table.Code.{Code}
use Rattle.products.specs.declared.table.Product.{Product}

-- two answers that differ
pub not-given : {A : Type 0} {k i n : ℕ} → refused k i ≡ given n → A
not-given e = cc

-- a price of a product: within the limit, and on the tick
pub record Listed (product : Product) (p : ℕ) : Type 0 where
  pub within : p ≤ price_limit
  pub on_tick : p % product.tick ≡ 0

-- a check that is passed on the way to a number
checked : (k : ℕ) (b : Bool) {a : Answer} {n : ℕ} → check k b a ≡ given n → (b ≡ true) × (a ≡ given n)
checked k true e = (refl, e)
checked k false e = not-given e

-- a number that is given after 6 and 7: the price is within the limit and on the tick
pub after-price : (tick p : ℕ) {a : Answer} {n : ℕ} → at_price tick p a ≡ given n → (p ≤ price_limit) × (p % tick ≡ 0) × (a ≡ given n)
after-price tick p e =
    let (b, f) = checked 6 (leb p price_limit) e in
    let (d, g) = checked 7 (eqb (p % tick) 0) f in
    (leb-true _ _ b, eqb-true _ _ d, g)

-- an answer a given at a price of the product that a code names
pub record Priced (code : Code) (p : ℕ) (a : Product → Answer) (n : ℕ) : Type 0 where
  pub product : Product
  pub found : find code ≡ Some product
  pub listed : Listed product p
  pub answer : a product ≡ given n

pub answered : (code : Code) (p : ℕ) (a : Product → Answer) {n : ℕ} → of_product (find code) (λ product. at_price product.tick p (a product)) ≡ given n → Priced code p a n
answered code p a {n} = of_found (find code) refl
  where
    of_found : (f : Option Product) → find code ≡ f → of_product f (λ product. at_price product.tick p (a product)) ≡ given n → Priced code p a n
    of_found (Some product) f e =
        let (w, t, g) = after-price product.tick p e in
        record { product = product; found = f; listed = record { within = w; on_tick = t }; answer = g }
    of_found None f e = not-given e

-- a value that is given is the product's, at a price within the limit and on the tick
pub record Valued (code : Code) (p n : ℕ) : Type 0 where
  pub product : Product
  pub found : find code ≡ Some product
  pub listed : Listed product p
  pub is : value_by product.terms p ≡ n

pub valued : (code : Code) (p : ℕ) {n : ℕ} → value_of code p ≡ given n → Valued code p n
unfolding value_of
valued code p e =
    let h = answered code p (λ product. given (value_by product.terms p)) e in
    let k = h.answer in
    record { product = h.product; found = h.found; listed = h.listed; is = cc }

-- and the other way round
pub gives-value : (code : Code) (p : ℕ) {product : Product} → find code ≡ Some product → Listed product p → value_of code p ≡ given (value_by product.terms p)
unfolding value_of
gives-value code p {product} f h = rw (f, le-leb p price_limit h.within, eq-eqb (p % product.tick) 0 h.on_tick)

-- a tick value that is given: the price is within the limit and on the tick, the next one is within the limit, and this is their values' difference
pub tick-valued : (code : Code) (p : ℕ) {d : ℕ} {product : Product} → find code ≡ Some product → tick_value_of code p ≡ given d
    → Listed product p × (value_by product.terms (p + product.tick) - value_by product.terms p ≡ d) × (p + product.tick ≤ price_limit)
unfolding tick_value_of
tick-valued code p {d} {product} f e =
    let h = answered code p (λ product. check 15 (leb (p + product.tick) price_limit) (given (value_by product.terms (p + product.tick) - value_by product.terms p))) e in
    let g = h.found in
    let same : h.product ≡ product = cc in
    let l : Listed product p = rw (← same) h.listed in
    let (b, a) = checked 15 (leb (p + product.tick) price_limit) (rw same at h.answer) in
    (l, cc, leb-true _ _ b)

-- the exact value of a code in the table
pub exact-of : (code : Code) (p : ℕ) {product : Product} → find code ≡ Some product → exact_of code p ≡ exact_by product.terms p
unfolding exact_of
exact-of code p f = rw f
