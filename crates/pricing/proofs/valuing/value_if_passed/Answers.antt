use Rattle.std.proofs.Common.{ap, ◌∙◌}
use Rattle.pricing.specs.Calls.{or_zero}
use Rattle.pricing.proofs.Zero.{unwrapped}
use Rattle.pricing.proofs.valuing.value_if_passed.Goals as goal

pub returns : goal.returns
returns c = c.unwrap_or.ensures ∙ unwrapped c.value.result ∙ ap or_zero c.value.ensures
