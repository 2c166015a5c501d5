use Rattle.settlement.specs.Groups.{alike_in}
use Rattle.settlement.proofs.groups.alike.Goals as goal

pub returns : goal.returns
unfolding alike_in
returns c = rw (← c.mark_at.ensures, ← c.mark_at-2.ensures) c.same_code.ensures
