-- When a single-contract call is turned away: the conditions of its checks, as statements about the code and the price.
use Rattle.std.specs.Prelude.{ℕ, ◌+◌, ◌<◌, ◌≡◌, ◌↔◌, Some}
use Rattle.std.specs.Int.{◌∣◌}
use mathlib.Core.List.{List, [], ◌∷◌}
use Rattle.numbers.specs.Order.{Decides, Clear}
use Rattle.products.specs.Products.{price_limit, find, Unlisted}
use Rattle.pricing.specs.Calls.{Answer, given, refused}
use Rattle.products.specs.declared.table.Code.{Code}
use Rattle.products.specs.declared.table.Product.{Product}
use Rattle.products.specs.declared.table.Terms.TheVariants.{Bond}

pub data ContractCheck : Type 0 where
  NoProduct : ContractCheck
  NoBond : ContractCheck
  AboveLimit : ContractCheck
  OffTick : ContractCheck
  NextAboveLimit : ContractCheck

abbrev pub check_number : ContractCheck → ℕ
check_number NoProduct = 4
check_number NoBond = 4
check_number AboveLimit = 6
check_number OffTick = 7
check_number NextAboveLimit = 15

-- the condition of a check; a single-contract call has the index 0
abbrev pub HoldsAt : Code → ℕ → ContractCheck → ℕ → Type 0
-- 4: the code is not in the product table
HoldsAt code p NoProduct i = (i ≡ 0) × Unlisted code
-- 4, for a bracket: it is no code of a bond
HoldsAt code p NoBond i = (i ≡ 0) × ((product : Product) → find code ≡ Some product → (face c n : ℕ) → ¬ (product.terms ≡ Bond face c n))
-- 6: the price is above 1,000,000
HoldsAt code p AboveLimit i = (i ≡ 0) × (price_limit < p)
-- 7: the price is not a multiple of the product's tick
HoldsAt code p OffTick i = (i ≡ 0) × ((product : Product) × (find code ≡ Some product) × ¬ (product.tick ∣ p))
-- 15: p + tick is above 1,000,000
HoldsAt code p NextAboveLimit i = (i ≡ 0) × ((product : Product) × (find code ≡ Some product) × (price_limit < p + product.tick))

-- the checks of each call, in their order
abbrev pub value_checks : List ContractCheck
value_checks = NoProduct ∷ AboveLimit ∷ OffTick ∷ []

abbrev pub tick_value_checks : List ContractCheck
tick_value_checks = NoProduct ∷ AboveLimit ∷ OffTick ∷ NextAboveLimit ∷ []

abbrev pub bracket_checks : List ContractCheck
bracket_checks = NoBond ∷ AboveLimit ∷ OffTick ∷ []

-- An answer is the refusal k at i exactly where condition k is the first of its checks that holds, at i;
-- and a number exactly where none holds.
pub record Exactly (code : Code) (p : ℕ) (checks : List ContractCheck) (answer : Answer) : Type 0 where
  pub turned : (k i : ℕ) → (answer ≡ refused k i) ↔ Decides check_number (HoldsAt code p) checks k i
  pub answers : ((n : ℕ) × (answer ≡ given n)) ↔ Clear (HoldsAt code p) checks
