-- The fields in the first 11 of 16 zeros, the currency and the newline in the next four, and the fields' length in the last are the mark's
-- words (`words_made`).
use native.Mathlib.Omega.{arith}
use Rattle.report.proofs.MarkWords.{words_made}
use Rattle.report.proofs.words.words_of.Goals as goal

pub returns : goal.returns
returns c =
    let w = c.write_contract-k.ensures in
    let m = c.mark_at-m.ensures in
    words_made c.args.marks.now (λ i. omega (arith, c.type_inv.marks i)) c.args.i 5 (omega (arith, w.kept)) (rw m at w)
    (rw m at c.write_currency.ensures)
