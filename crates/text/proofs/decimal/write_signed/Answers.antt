-- A sign is none or the minus sign, so that its length tells which, and the digits are those of the number without its sign.
use Rattle.text.specs.Table.{signed_decimal_by}
use Rattle.text.proofs.Table.{sign_is}
use mir.Facts.{to_z-of_z}
use mir.Syntax.{w64}
use Rattle.text.proofs.decimal.write_signed.Goals as goal

pub write_with_sign-requires : goal.write_with_sign-requires
write_with_sign-requires c =
    (sign_is c.args.n (rw (to_z-of_z {w = w64} c.ranges.n) at c.sign.ensures)).0

pub returns : goal.returns
unfolding signed_decimal_by
returns c =
    let e = to_z-of_z {w = w64} c.ranges.n in
    rw (
      (sign_is c.args.n (rw e at c.sign.ensures)).1,
      rw e at c.magnitude.ensures,
    ) at c.write_with_sign.ensures
