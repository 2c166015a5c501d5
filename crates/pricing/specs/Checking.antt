-- Checks 4, 6 and 7 as the code decides them, before it works a number. No caller of the crate sees these.
use Rattle.std.specs.Prelude.{ℕ, ◌≡◌, ◌≤◌, Bool, true, false, Result, Ok, Err}
use Rattle.faults.specs.Faults.{number_of}
use Rattle.faults.specs.declared.fault.Fault.{Fault}
use Rattle.products.specs.Products.{price_limit}
use Rattle.products.specs.declared.table.Terms.{Terms}
use Rattle.pricing.specs.declared.listed.Listed.{Listed}
use Rattle.pricing.specs.Calls.{Answer, given, refused, at_price}

-- the answer a where the checks pass, else their refusal
abbrev pub after : Result (Unit {0}) Fault → Answer → Answer
after (Ok x) a = a
after (Err fault) a = refused (number_of fault) 0

-- they pass: the price is within the limit, and any answer stays
pub record Passes (tick p : ℕ) : Type 0 where
  pub low : p ≤ price_limit
  pub answer : (a : Answer) → at_price tick p a ≡ a

abbrev pub is_refused : Answer → Bool
is_refused (given n) = false
is_refused (refused k i) = true

-- whether a price fails one of them
abbrev pub fails_at : ℕ → ℕ → Bool
fails_at tick p = is_refused (at_price tick p (given 0))

-- the answer by the terms and the tick of the product where there is one, else the refusal
abbrev pub of_listed : Result Listed Fault → (Terms → ℕ → Answer) → Answer
of_listed (Ok product) f = f product.terms product.tick
of_listed (Err fault) f = refused (number_of fault) 0
