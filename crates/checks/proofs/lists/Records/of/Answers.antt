use Rattle.dayfile.proofs.Parts.{lists_within}
use Rattle.checks.proofs.lists.Records.of.Goals as goal

pub invariant_of-result : goal.invariant_of-result
invariant_of-result c =
    record { within = rw (c.marks_in.ensures, c.corrections_in.ensures, c.positions_in.ensures) (lists_within c.args.file.now c.args.d c.requires) }
