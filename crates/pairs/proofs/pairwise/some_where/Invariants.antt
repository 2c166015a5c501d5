use Rattle.numbers.specs.Searches.{some_by}
use Rattle.pairs.proofs.pairwise.some_where.Given as goal

-- what is found so far
abbrev pub invariant-loop-k : goal.invariant-loop-k
invariant-loop-k g l = some_by (goal.F-post g l.test) l.k l.some
