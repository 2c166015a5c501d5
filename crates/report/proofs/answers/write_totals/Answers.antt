use mathlib.Core.Path.{◌∙◌}
use Rattle.numbers.proofs.Signed.{back}
use Rattle.report.specs.Lines.{total_line}
use Rattle.text.proofs.Writing.{writes_then}
use Rattle.report.proofs.answers.write_totals.Goals as goal

pub returns : goal.returns
unfolding total_line
returns c =
    let aud = c.cents in
    let nzd = c.cents-2 in
    writes_then (rw (back aud.result aud.type_inv ∙ aud.ensures) at c.write_total-nzd_at.ensures)
    (rw (back nzd.result nzd.type_inv ∙ nzd.ensures) at c.write_total.ensures)
