-- Where no price is turned away all are within the limit, and no value is a 0 for a refusal.
use Rattle.std.proofs.Common.{ap, sym, ◌∙◌, arith, rules}
use Rattle.pricing.specs.Calls.{or_zero}
use Rattle.pricing.proofs.Made.{made}
use Rattle.pricing.proofs.SideBySide.{all_pass}
use Rattle.pricing.proofs.valuing.values_by.Goals as goal

pub bonds_at-requires : goal.bonds_at-requires
bonds_at-requires c =
    let passes = all_pass c.args.product.tick c.args.p (sym c.some_fails.ensures ∙ c.if-not-some_fails.true) in
    (search rules, (search rules, (rw c.in-Bond.is at c.args.product.modest, record { few = omega arith; lane = λ i h. (passes i h).low })))

pub returns-in-Bond : goal.returns-in-Bond
returns-in-Bond c =
    let passes = all_pass c.args.product.tick c.args.p (sym c.some_fails.ensures ∙ c.if-not-some_fails.true) in
    rw c.in-Bond.is (record { entry = λ i h. c.bonds_at.ensures.entry i h ∙ ap or_zero (sym ((passes i h).answer _)) })

pub returns-in_default : goal.returns-in_default
returns-in_default c = made _ (λ i y f' k. search rules) 0 c.from_fn.ensures.items
