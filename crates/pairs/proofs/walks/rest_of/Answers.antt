use Rattle.pairs.specs.Walks.{rest_of}
use Rattle.pairs.proofs.walks.rest_of.Goals as goal

pub returns : goal.returns
unfolding rest_of
returns c = rw c.scatter.ensures.0
