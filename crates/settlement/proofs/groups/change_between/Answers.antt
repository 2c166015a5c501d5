-- No value is above 500,000,000 cents, so that `difference` may be asked for the two values of the contract.
use Prim.Native.Nat.{ℕ}
use lib.IntN.{pos, ◌-ℤ◌}
use Rattle.numbers.proofs.Chain.{by_two}
use mathlib.Core.Path.{◌∙◌}
use Rattle.numbers.proofs.Signed.{back}
use Rattle.settlement.proofs.Pricing.{by_value_or_zero}
use Rattle.settlement.proofs.groups.change_between.Goals as goal

pub difference-requires : goal.difference-requires
difference-requires c = ((by_value_or_zero _ _ c.value_or_zero.ensures).1, (by_value_or_zero _ _ c.value_or_zero-2.ensures).1)

pub returns : goal.returns
returns c =
    by_two (λ (x y : ℕ). pos x -ℤ pos y) (back c.difference.result c.difference.type_inv ∙ c.difference.ensures)
    (by_value_or_zero _ _ c.value_or_zero.ensures).0 (by_value_or_zero _ _ c.value_or_zero-2.ensures).0
