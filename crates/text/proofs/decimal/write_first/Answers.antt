-- By whether the number has one digit or two: a single one overwrites the figure that was stored in its place.
use Rattle.text.proofs.Table.{first-written}
use Rattle.text.proofs.decimal.write_first.Goals as goal

pub returns : goal.returns
returns c =
    first-written c.args.pairs.now c.args.n c.args.i c.args.out.now c.requires.0 c.requires.1 c.requires.2
