-- By what the file is judged to be: a refusal is passed on, and a passed file's sections are its lists of marks and corrections.
use Rattle.std.proofs.Common.{◌≡◌, Err, rules}
use Rattle.settlement.proofs.OneMark.{mark_answered, sections_answer}
use Rattle.settlement.proofs.one_mark.mark.Goals as goal

pub returns-in_err-counts : goal.returns-in_err-counts
returns-in_err-counts c =
    let same : c.from_residual.result ≡ Err c.in_err-counts.field-0.0 = search rules in
    mark_answered c.args.file.now c.args.m c.in_err-counts.ensures (rw same)

pub returns : goal.returns
returns c =
    let a = c.args in
    mark_answered a.file.now a.m c.in_ok-counts.ensures
    (sections_answer a.file.now a.m c.in_ok-counts.field-0.counts c.marks_in.ensures c.corrections_in.ensures c.prices.ensures)
