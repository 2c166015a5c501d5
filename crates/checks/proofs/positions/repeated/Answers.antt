-- Positions have one key exactly where they agree in account and mark.
use Rattle.std.proofs.Common.{arith}
use Rattle.numbers.specs.Bytes.{Bytes}
use Rattle.checks.proofs.Keyed.{repeated_position}
use Rattle.checks.proofs.positions.repeated.Goals as goal

pub returns : goal.returns
returns c =
    let list = c.args.positions.now in
    let bytes : Bytes list = λ k. omega (arith, c.type_inv.positions k) in
    repeated_position list bytes c.requires c.first_repeated.ensures
