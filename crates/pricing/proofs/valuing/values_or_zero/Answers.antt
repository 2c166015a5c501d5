use Rattle.std.proofs.Common.{ℕ, get_or, ap, ◌∙◌, rules}
use Rattle.std.proofs.lemmas.List.{length-replicate}
use Rattle.numbers.proofs.Filled.{filled-table, filled_all}
use Rattle.pricing.specs.Calls.{lanes, or_zero, value_of, values_or_zero}
use Rattle.pricing.proofs.valuing.values_or_zero.Goals as goal

pub returns-in-Ok : goal.returns-in-Ok
unfolding values_or_zero value_of
returns-in-Ok c =
    let a = c.args in
    filled-table {d = 0} {f = λ i. or_zero (value_of a.code (get_or a.p i 0))} (search rules)
    (record { entry = λ i h. c.values_by.ensures.entry i h ∙ ap or_zero (c.in-Ok.ensures _) })

pub returns-in-Err : goal.returns-in-Err
unfolding values_or_zero value_of
returns-in-Err c =
    let a = c.args in
    let z : ℕ = 0 in
    filled-table {d = 0} {f = λ i. or_zero (value_of a.code (get_or a.p i 0))} (length-replicate lanes z)
    (filled_all lanes 0 (λ i. ap or_zero (c.in-Err.ensures _)))
