-- Where all checks are looked at they decide as their order does, and the judgement goes by that decision.
use Rattle.std.proofs.Common.{◌≡◌, ap, ◌∙◌, rules}
use Rattle.numbers.proofs.Checks.{decision_all}
use Rattle.faults.specs.Faults.{number_of}
use Rattle.checks.specs.Corrections.{resent_of}
use Rattle.checks.specs.Judging.{lists_of_records, record_checks, judged, judged_by, Passed, Refused}
use Rattle.checks.proofs.judging.judge_records.Goals as goal

pub returns-in_err-resent : goal.returns-in_err-resent
returns-in_err-resent c =
    let a = c.args in
    let ls = lists_of_records a.records in
    let r = c.in_err-resent.field-0.0 in
    let same : judged c.from_residual.result ≡ Refused (number_of r.fault) r.index = search rules in
    same ∙ ap (judged_by a.counts (resent_of ls.corrections)) (c.in_err-resent.ensures.decision ∙ decision_all (record_checks ls))

pub returns : goal.returns
returns c =
    let a = c.args in
    let ls = lists_of_records a.records in
    ap (Passed a.counts) c.in_ok-resent.ensures.resent
    ∙ ap (judged_by a.counts (resent_of ls.corrections)) (c.in_ok-resent.ensures.decision ∙ decision_all (record_checks ls))
