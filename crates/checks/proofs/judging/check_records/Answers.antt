-- Above a limit check 2 refuses before all others, and within all three the checks over the records decide.
use Rattle.std.proofs.Common.{sym, ◌∙◌}
use Rattle.numbers.proofs.Checks.{one_decides, one_passes, decision_all}
use Rattle.dayfile.specs.Limits.{file_limits}
use Rattle.dayfile.specs.Records.{lists_of}
use Rattle.checks.specs.Judging.{record_checks, too_many_records}
use Rattle.checks.proofs.Deciding.{handed_on, above_limits}
use Rattle.checks.proofs.judging.check_records.Goals as goal

pub returns-then-too_many : goal.returns-then-too_many
returns-then-too_many c =
    let a = c.args in
    let ls = lists_of a.marks.now a.corrections.now a.positions.now in
    above_limits c.from.ensures ∙ one_decides (too_many_records file_limits ls) (record_checks ls) (sym c.too_many.ensures ∙ c.if-too_many.true)

pub returns-in_err-decide_records : goal.returns-in_err-decide_records
returns-in_err-decide_records c =
    let a = c.args in
    let ls = lists_of a.marks.now a.corrections.now a.positions.now in
    handed_on _ c.in_err-decide_records.field-0.0 c.from_residual.ensures.1 ∙ one_passes (too_many_records file_limits ls) (record_checks ls) (sym c.too_many.ensures ∙ c.if-too_many.false)
    (c.in_err-decide_records.ensures.decision ∙ decision_all (record_checks ls))

pub returns : goal.returns
returns c =
    let a = c.args in
    let ls = lists_of a.marks.now a.corrections.now a.positions.now in
    one_passes (too_many_records file_limits ls) (record_checks ls) (sym c.too_many.ensures ∙ c.if-too_many.false)
    (c.in_ok-decide_records.ensures.decision ∙ decision_all (record_checks ls))
