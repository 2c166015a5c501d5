use Rattle.text.proofs.Writing.{writes_then}
use Rattle.report.proofs.words.write_contract.Goals as goal

pub returns : goal.returns
returns c = writes_then c.write_code-date_at.ensures c.write_date.ensures
