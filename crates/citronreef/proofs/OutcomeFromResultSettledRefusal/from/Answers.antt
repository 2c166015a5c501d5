-- By the kind of answer: the totals of a settlement are the cents of their currencies, and beside a refusal's two numbers all others are 0.
use mathlib.Core.Path.{ap, sym, ◌∙◌}
use mir.Syntax.{w64}
use mir.Facts.{to_z-of_z}
use Rattle.settlement.specs.Settling.{said}
use Rattle.citronreef.specs.Numbers.{outcome_of}
use Rattle.citronreef.proofs.OutcomeFromResultSettledRefusal.from.Goals as goal

pub returns-in-Ok : goal.returns-in-Ok
returns-in-Ok c =
    let a = c.cents in
    let n = c.cents-in-Ok in
    let aud = to_z-of_z {w = w64} {z = a.result} (record { sfits = a.type_inv }) ∙ a.ensures in
    let nzd = to_z-of_z {w = w64} {z = n.result} (record { sfits = n.type_inv }) ∙ n.ensures in
    rw (aud, nzd) (sym (ap (λ s. outcome_of (said s)) c.in-Ok.is))
