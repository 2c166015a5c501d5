use Rattle.text.proofs.Writing.{fitted_writes, writes_then}
use Rattle.report.proofs.answers.write_labelled.Goals as goal

pub returns : goal.returns
returns c = writes_then (fitted_writes _ c.write_text-number_at.ensures) c.write_number.ensures
