use Rattle.std.proofs.Common.{refl, arith}
use Rattle.pairs.specs.Walks.{scattered}
use Rattle.pairs.proofs.walks.scatter.Goals as goal

pub returns : goal.returns
unfolding scattered
returns c = (refl, omega arith)
