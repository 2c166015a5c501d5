-- What settlement takes from the pricing part: the value of one contract.
use Rattle.std.specs.Prelude.{ℕ}
use Rattle.pricing.specs.Calls.{or_zero, value_of}
use Rattle.products.specs.declared.table.Code.{Code}

-- the value of one contract in cents, 0 where the call is refused
unfoldable pub value_or_zero : Code → ℕ → ℕ
value_or_zero a p = or_zero (value_of a p)
