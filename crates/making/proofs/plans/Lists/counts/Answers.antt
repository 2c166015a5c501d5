use Rattle.dayfile.specs.Making.{counts_in}
use Rattle.making.proofs.plans.Lists.counts.Goals as goal

pub returns : goal.returns
unfolding counts_in
returns c = cc
