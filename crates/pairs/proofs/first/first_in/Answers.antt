-- Of none that is left the first is none.
use Rattle.pairs.proofs.Listing.{sifted_first}
use Rattle.pairs.proofs.first.first_in.Goals as goal

pub returns : goal.returns
returns c = rw (c.then_some.ensures, c.min.ensures) (sifted_first c.in_ok-s.ensures)
