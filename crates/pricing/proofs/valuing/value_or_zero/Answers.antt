use Rattle.std.proofs.Common.{ap, ◌∙◌}
use Rattle.pricing.specs.Calls.{or_zero, value_of}
use Rattle.pricing.proofs.valuing.value_or_zero.Goals as goal

pub returns-in-Ok : goal.returns-in-Ok
unfolding value_of
returns-in-Ok c = c.value_if_passed.ensures ∙ ap or_zero (c.in-Ok.ensures _)

pub returns-in-Err : goal.returns-in-Err
unfolding value_of
returns-in-Err c = ap or_zero (c.in-Err.ensures _)
