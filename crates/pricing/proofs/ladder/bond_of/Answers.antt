-- A low rung, a coupon of at most 3 and a face of at most 100,000 keep the product within what `rounded` takes.
use Rattle.std.proofs.Common.{arith}
use Rattle.pricing.specs.Value.{scale}
use Rattle.pricing.proofs.Climbing.{face_low}
use Rattle.pricing.proofs.ladder.bond_of.Goals as goal

pub overflow_mul-bracket_of : goal.overflow_mul-bracket_of
overflow_mul-bracket_of c = let s = c.requires in omega (arith, face_low s.0 s.1 s.2 c.bracket_of.ensures)

pub rounded-requires : goal.rounded-requires
rounded-requires c = let s = c.requires in omega (arith, face_low s.0 s.1 s.2 c.bracket_of.ensures)

pub returns : goal.returns
unfolding scale
returns c = rw c.bracket_of.ensures at c.rounded.ensures
