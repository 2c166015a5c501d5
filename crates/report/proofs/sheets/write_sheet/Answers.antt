use Rattle.text.proofs.Writing.{writes_then}
use Rattle.report.proofs.sheets.write_sheet.Goals as goal

pub write_settled-n-requires : goal.write_settled-n-requires
write_settled-n-requires c = rw c.count.ensures c.requires

pub returns : goal.returns
returns c = writes_then c.write_settled-n.ensures c.write_answer.ensures
