-- By what checks 1 and 2 say: their refusal is that of all three, and where they give counts the header is whole and the layout decides.
use borrow.Author.Rules.{rules}
use mathlib.Core.Path.{◌≡◌, sym, ◌∙◌}
use Rattle.faults.specs.Faults.{number_of}
use Rattle.dayfile.specs.Opening.{Refused, opened}
use Rattle.dayfile.proofs.Opening.{counted-refused}
use Rattle.dayfile.proofs.Header.{whole-header, by_layout}
use Rattle.dayfile.proofs.file.open_file.Goals as goal

pub as_laid_out-requires : goal.as_laid_out-requires
as_laid_out-requires c = whole-header _ (sym c.in_ok-d.ensures)

pub returns-in_err-d : goal.returns-in_err-d
returns-in_err-d c =
    let same : opened c.from_residual.result ≡ Refused (number_of c.in_err-d.field-0.0) = search rules in
    same ∙ counted-refused _ _ (sym c.in_err-d.ensures)

pub returns-then-as_laid_out : goal.returns-then-as_laid_out
returns-then-as_laid_out c =
    by_layout _ (sym c.in_ok-d.ensures) (sym c.as_laid_out.ensures ∙ c.if-as_laid_out.true)

pub returns-else-as_laid_out : goal.returns-else-as_laid_out
returns-else-as_laid_out c =
    by_layout _ (sym c.in_ok-d.ensures) (sym c.as_laid_out.ensures ∙ c.if-as_laid_out.false)
