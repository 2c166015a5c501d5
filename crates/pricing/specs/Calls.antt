-- The answers of the single-contract calls, with the numbers of the checks that turn a call away.
use Rattle.std.specs.Prelude.{Result, Ok, Err, ℕ, ◌+◌, ◌-◌, ◌%◌, Bool, cond, List, leb, eqb, get_or, Option, Some, None}
use Rattle.numbers.specs.Folds.{table}
use Rattle.products.specs.Products.{price_limit, find}
use Rattle.pricing.specs.Ladder.{bracket}
use Rattle.pricing.specs.Value.{scale, bond_divisor, value_by}
use Rattle.faults.specs.Faults.{number_of}
use Rattle.faults.specs.declared.fault.Fault.{Fault}
use Rattle.products.specs.declared.table.Code.{Code}
use Rattle.products.specs.declared.table.Product.{Product}
use Rattle.products.specs.declared.table.Terms.{Terms}
use Rattle.products.specs.declared.table.Terms.TheVariants.{Bill, Bond, CashRate}

-- the answer of a call: a number, or the number of the check that turns it away and a record's index
pub data Answer : Type 0 where
  given : ℕ → Answer
  refused : ℕ → ℕ → Answer

-- what an answer of the code says; a call on one contract has no records, and its index is 0
abbrev pub said : Result ℕ Fault → Answer
said (Ok n) = given n
said (Err fault) = refused (number_of fault) 0

-- the answer a, unless check k fails
abbrev pub check : ℕ → Bool → Answer → Answer
check k passed a = cond passed a (refused k 0)

-- check 4, then the answer of the product
abbrev pub of_product : Option Product → (Product → Answer) → Answer
of_product (Some product) f = f product
of_product None f = refused 4 0

-- checks 6 and 7 of a price, then the answer a
abbrev pub at_price : ℕ → ℕ → Answer → Answer
at_price tick p a = check 6 (leb p price_limit) (check 7 (eqb (p % tick) 0) a)

-- the number of an answer, 0 where the call is refused
abbrev pub or_zero : Answer → ℕ
or_zero (given n) = n
or_zero (refused k i) = 0

-- the value of one contract in cents
unfoldable pub value_of : Code → ℕ → Answer
value_of code p = of_product (find code) (λ product. at_price product.tick p (given (value_by product.terms p)))

-- how many prices are asked for at once
abbrev pub lanes : ℕ
lanes = 8

-- the value at each of several prices, 0 where the call is refused
unfoldable pub values_or_zero : Code → List ℕ → List ℕ
values_or_zero code p = table (λ i. or_zero (value_of code (get_or p i 0))) lanes

-- the value at p + tick minus the value at p, which is never below 0 (proofs/Promises.antt, tick_value_adds)
unfoldable pub tick_value_of : Code → ℕ → Answer
tick_value_of code p =
    of_product (find code)
    (λ product. at_price product.tick p
    (check 15 (leb (p + product.tick) price_limit) (given (value_by product.terms (p + product.tick) - value_by product.terms p))))

-- the answer of a bond's half coupon and half years; other terms are refused with 4
abbrev pub of_bond : Terms → (ℕ → ℕ → Answer) → Answer
of_bond (Bill face days) f = refused 4 0
of_bond (Bond face c n) f = f c n
of_bond (CashRate cents) f = refused 4 0

-- a bond's bracket, in units of the ladder
unfoldable pub bracket_of : Code → ℕ → Answer
bracket_of code p =
    of_product (find code)
    (λ product. of_bond product.terms (λ c n. at_price product.tick p (given (bracket scale c n (bond_divisor p)))))
