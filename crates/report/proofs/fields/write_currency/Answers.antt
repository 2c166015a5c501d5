-- By the currency: what is written are its three letters and the newline.
use Rattle.report.specs.Lines.{letters_of}
use Rattle.text.proofs.Writing.{fitted_writes}
use Rattle.report.proofs.fields.write_currency.Goals as goal

pub returns-in-Aud : goal.returns-in-Aud
unfolding letters_of
returns-in-Aud c =
    rw (← c.currency_of.ensures, c.in-Aud.is)
    (fitted_writes _ c.write_text.ensures)

pub returns-in-Nzd : goal.returns-in-Nzd
unfolding letters_of
returns-in-Nzd c =
    rw (← c.currency_of.ensures, c.in-Nzd.is)
    (fitted_writes _ c.write_text-in-Nzd.ensures)
