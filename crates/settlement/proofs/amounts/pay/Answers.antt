-- The array has the currencies of the file's marks, and each position names one of them: so a sum by the array is the sum of a currency's
-- amounts.
use Rattle.dayfile.specs.Records.{marks_in, positions_in}
use Rattle.settlement.proofs.Shares.{pays}
use Rattle.settlement.proofs.amounts.pay.Goals as goal

pub returns : goal.returns
returns c =
    pays (marks_in c.args.marks.bytes.now) (positions_in c.args.positions.now) c.args.a.now c.requires.0.0.1
    c.currencies.ensures c.pay_by.ensures
