-- The words of distance tell near from far, and the same from another.
use Rattle.std.proofs.Common.{pos, negsuc, refl, arith}
use Rattle.numbers.specs.Nearness.{Near}
use Rattle.numbers.specs.Fractions.{Same, Within}

-- 5 and 7
pub near_far : Near 5 7 2 × (¬ (Near 5 7 1)) × (¬ (Near 7 5 1))
near_far = (record { up = omega arith; down = omega arith }, (λ h. omega (arith, h.down)), (λ h. omega (arith, h.up)))

-- 1/2 and 2/4, 1/2 and 2/3
pub same-other : Same (record { num = 1; den = 2 }) (record { num = 2; den = 4 }) × (¬ (Same (record { num = 1; den = 2 }) (record { num = 2; den = 3 })))
same-other = (record { proper = (omega arith, omega arith); same = refl }, (λ h. omega (arith, h.same)))

-- 3 and −1/2
pub within_beyond : Within (pos 3) (record { num = negsuc 0; den = 2 }) 4 × (¬ (Within (pos 3) (record { num = negsuc 0; den = 2 }) 3))
within_beyond = (record { proper = omega arith; apart = omega arith }, (λ h. omega (arith, h.apart)))
