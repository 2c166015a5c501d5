-- The checks in their order: the first that refuses decides, and where none does the file has the counts of the lists.
use mathlib.Core.Path.{sym}
use Rattle.making.proofs.Planned.{planned_2, planned_3}
use Rattle.making.proofs.plans.plan_of.Goals as goal

pub returns-then-too_many : goal.returns-then-too_many
returns-then-too_many c = rw c.from.ensures (planned_2 _ _ _ _ _ (sym c.if-too_many.ensures))

pub returns-then-broken : goal.returns-then-broken
returns-then-broken c = rw c.from-then-broken.ensures (planned_3 _ _ _ _ _ (sym c.if-too_many.ensures) (sym c.if-broken.ensures))
