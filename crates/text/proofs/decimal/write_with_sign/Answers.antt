-- By the room: a minus sign is stored first and the digits from s on; where s is 0 they cover it, as every number has a digit.
use Rattle.text.proofs.Writing.{wrote_no_room, wrote_fitted, wrote_byte, wrote_over}
use Rattle.text.proofs.Decimals.{decimal_64, some-digit}
use Rattle.text.proofs.Table.{by_length, sized}
use Rattle.text.specs.Table.{decimal_by}
use Rattle.text.specs.Decimal.{minus_sign}
use lib.ListN.{take}
use native.Mathlib.Omega.{arith}
use mathlib.Core.List.{[], ◌∷◌, ◌++◌}
use Rattle.text.proofs.decimal.write_with_sign.Goals as goal

pub overflow_add-s : goal.overflow_add-s
overflow_add-s c = omega (arith, decimal_64 c.ranges.size)

pub returns-then-out-s : goal.returns-then-out-s
returns-then-out-s c =
    wrote_no_room (take c.args.s (minus_sign ∷ []) ++ decimal_by _ _) _ (omega (arith, sized c.args.pairs.now c.args.s c.args.size c.requires))

pub bounds-out-0 : goal.bounds-out-0
bounds-out-0 c = omega (arith, some-digit c.args.size)

pub returns : goal.returns
returns c =
    let n = some-digit c.args.size in
    let l = by_length c.args.pairs.now c.args.size in
    wrote_fitted (omega (arith, sized c.args.pairs.now c.args.s c.args.size c.requires))
    (wrote_over c.args.s c.requires (omega arith) (wrote_byte minus_sign c.args.out.now (omega arith)) c.write_digits.ensures)
