use Rattle.text.proofs.Writing.{writes_then}
use Rattle.report.proofs.words.write_date.Goals as goal

pub returns : goal.returns
returns c = writes_then (rw c.from.ensures at c.write_number-year_at.ensures) (rw c.from-2.ensures at c.write_number.ensures)
