use Rattle.report.specs.Lines.{resent_line}
use Rattle.text.proofs.Writing.{writes_then}
use Rattle.report.proofs.answers.write_settlement.Goals as goal

pub returns : goal.returns
unfolding resent_line
returns c = writes_then c.write_totals-resent_at.ensures c.write_labelled.ensures
