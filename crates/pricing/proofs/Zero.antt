-- The number of an answer, 0 where a call is refused.
use Rattle.std.proofs.Common.{◌≡◌, ℕ, refl, Result, Ok, Err}
use Rattle.std.specs.Result.{result_unwrap_or}
use Rattle.faults.specs.declared.fault.Fault.{Fault}
use Rattle.pricing.specs.Calls.{said, or_zero}

pub unwrapped : (r : Result ℕ Fault) → result_unwrap_or r 0 ≡ or_zero (said r)
unwrapped (Ok n) = refl
unwrapped (Err fault) = refl
