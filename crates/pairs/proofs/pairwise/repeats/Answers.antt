use Rattle.std.proofs.Common.{rules}
use Rattle.numbers.proofs.Searches.{some_is}
use Rattle.pairs.specs.Records.{same_in}
use Rattle.pairs.proofs.pairwise.repeats.Goals as goal

pub returns : goal.returns
returns c =
    let a = c.args in
    some_is (same_in a.records.now a.i) (λ i r h p. search rules) c.some_where.ensures
