-- By whether the place is empty: one that is not holds one more than an index.
use Rattle.std.proofs.Common.{arith}
use Rattle.pairs.proofs.Trees.{node_held}
use Rattle.pairs.proofs.walks.node.Goals as goal

pub returns-else-k-eq0 : goal.returns-else-k-eq0
returns-else-k-eq0 c =
    (node_held c.args.k c.args.i (omega arith), omega arith)
