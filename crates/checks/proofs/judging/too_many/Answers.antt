use Rattle.checks.proofs.judging.too_many.Goals as goal

pub returns : goal.returns
returns c = rw (← c.mark_count.ensures, ← c.correction_count.ensures, ← c.position_count.ensures)
