use Rattle.std.proofs.Common.{◌≡◌, ap, ◌∙◌, Result, Ok, Err, refl}
use Rattle.std.specs.Prelude.{is_err}
use Rattle.faults.specs.declared.fault.Fault.{Fault}
use Rattle.pricing.specs.Calls.{given}
use Rattle.pricing.specs.Checking.{after, is_refused}
use Rattle.pricing.proofs.valuing.fails.Goals as goal

-- an error is what refuses
refuses : (r : Result (Unit {0}) Fault) → is_err r ≡ is_refused (after r (given 0))
refuses (Ok x) = refl
refuses (Err fault) = refl

pub returns : goal.returns
returns c = c.is_err.ensures.value ∙ refuses c.check_price.result ∙ ap is_refused (c.check_price.ensures.answer (given 0))
