-- By the numbers that its bytes have.
use Rattle.std.proofs.Common.{rules}
use Rattle.checks.proofs.RawLots.{raw_faults_lem}
use Rattle.checks.proofs.positions.faults_at.Goals as goal

pub returns : goal.returns
returns c = let a = c.args in raw_faults_lem a.n a.positions.now a.i c.raw_position_at.ensures (search rules) c.faults.ensures
