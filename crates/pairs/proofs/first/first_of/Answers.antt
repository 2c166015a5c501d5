-- The first answer that comes is right.
use Rattle.std.proofs.Common.{◌∙◌}
use Rattle.pairs.proofs.Listing.{found_first}
use Rattle.pairs.proofs.first.first_of.Goals as goal

pub returns-in-Some : goal.returns-in-Some
returns-in-Some c = c.then_some.ensures ∙ found_first (rw c.in-Some.is at c.first_sifted.ensures)
