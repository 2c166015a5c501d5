-- V1 is the first factor, and the annuity of one half year is V1 too (`first_rung`).
use Rattle.pricing.proofs.Climbing.{first_rung}
use Rattle.pricing.proofs.ladder.start.Goals as goal

pub returns : goal.returns
returns c = rw c.from.ensures (first_rung _ c.first_factor-first.ensures)
