use Rattle.std.proofs.Common.{ℕ, ◌<◌, false}
use Rattle.checks.proofs.searches.first_where.Given as goal

-- no index so far passes
abbrev pub invariant-loop-i : goal.invariant-loop-i
invariant-loop-i g l = (j : ℕ) → j < l.i → goal.F-post g l.test j false
