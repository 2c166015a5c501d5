use Rattle.std.proofs.Common.{◌∙◌, rules}
use Rattle.dayfile.specs.Records.{corrections_in}
use Rattle.numbers.proofs.Searches.{first_is}
use Rattle.checks.proofs.LastNumbers.{by_lasts, first_clashing}
use Rattle.checks.proofs.clashes.first_clash.Goals as goal

pub returns : goal.returns
returns c =
    let cs = corrections_in c.args.corrections.now in
    rw (← c.correction_count.ensures) (first_is (by_lasts cs c.requires) (λ i r h p. search rules) c.first_where.ensures) ∙ first_clashing cs c.requires
