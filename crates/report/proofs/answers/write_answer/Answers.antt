-- By the kind of answer: the totals with the resent count, or the line of the refusal.
use Rattle.report.specs.Sheet.{answer_text}
use Rattle.report.proofs.answers.write_answer.Goals as goal

pub returns-in-Ok : goal.returns-in-Ok
unfolding answer_text
returns-in-Ok c = rw c.in-Ok.is c.write_settlement.ensures

pub returns-in-Err : goal.returns-in-Err
unfolding answer_text
returns-in-Err c = rw c.in-Err.is c.write_refusal.ensures
