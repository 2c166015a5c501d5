-- Marks have one key exactly where they are of one contract.
use Rattle.std.proofs.Common.{arith}
use Rattle.numbers.specs.Bytes.{Bytes}
use Rattle.checks.proofs.Keyed.{repeated_mark}
use Rattle.checks.proofs.marks.repeated.Goals as goal

pub returns : goal.returns
returns c =
    let list = c.args.marks.now in
    let bytes : Bytes list = λ k. omega (arith, c.type_inv.marks k) in
    repeated_mark list bytes c.requires c.first_repeated.ensures
