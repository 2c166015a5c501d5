-- By whether checks 1 to 3 open the file: their refusal stands before all others, and where they find nothing the records decide.
use Rattle.std.proofs.Common.{◌≡◌, sym, ◌∙◌, rules}
use Rattle.faults.specs.Faults.{number_of}
use Rattle.dayfile.proofs.Opening.{laid_out}
use Rattle.checks.specs.Judging.{judged, Refused}
use Rattle.checks.proofs.Judgements.{judged_refused, judged_opened}
use Rattle.checks.proofs.judging.judge.Goals as goal

pub of-requires : goal.of-requires
of-requires c = (laid_out c.args.file.now (sym c.in_ok-d.ensures)).counts-within

pub returns-in_err-d : goal.returns-in_err-d
returns-in_err-d c =
    let same : judged c.from_residual.result ≡ Refused (number_of c.in_err-d.field-0.0) 0 = search rules in
    same ∙ judged_refused _ (sym c.in_err-d.ensures)

pub returns : goal.returns
returns c = judged_opened c.args.file.now (sym c.in_ok-d.ensures) c.of.ensures c.judge_records.ensures
