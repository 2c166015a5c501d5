use Rattle.std.proofs.Common.{◌≡◌, Err, ◌∙◌, rules}
use Rattle.pricing.specs.Calls.{value_of}
use Rattle.pricing.proofs.contract.value.Goals as goal

pub returns-in_err-of : goal.returns-in_err-of
unfolding value_of
returns-in_err-of c =
    let e : c.from_residual.result ≡ Err c.in_err-of.field-0.0 = search rules in
    rw e (c.in_err-of.ensures _)

pub returns : goal.returns
unfolding value_of
returns c = c.value.ensures ∙ c.in_ok-of.ensures _
