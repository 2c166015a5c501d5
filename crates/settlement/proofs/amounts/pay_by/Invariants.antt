-- At position i the first i places of the slice hold their positions' amounts, and each sum is that of its currency's among them, by the
-- array of the marks' currencies. Lots and changes are bounded, so no amount and no sum leaves 64 bits.
use Rattle.std.proofs.Common.{◌≡◌}
use Rattle.numbers.specs.Folds.{front}
use Rattle.numbers.specs.Integers.{entry_of}
use Rattle.dayfile.specs.Records.{positions_in}
use Rattle.settlement.specs.Settling.{amount_of}
use Rattle.settlement.proofs.Shares.{Summed}
use Rattle.settlement.proofs.amounts.pay_by.Given as goal

abbrev pub invariant-loop-i : goal.invariant-loop-i
invariant-loop-i l =
    (l.amounts ≡ front (amount_of (positions_in l.positions) (entry_of l.a)) l.initial.amounts l.i) × Summed (positions_in l.positions) l.a l.currencies l.i l.s
