-- Signed numbers by their size: omega reads the sizes, so that a sum, a difference or a product fits i64 is one bound in ℕ.
use Rattle.std.proofs.Common.{◌≡◌, ℕ, zero, suc, ◌+◌, ◌-◌, ◌*◌, ◌^◌, ◌<◌, ◌≤◌, Bool, true, false, cond, ltb, ℤ, pos, negsuc, ◌+ℤ◌, ◌-ℤ◌, ◌*ℤ◌, neg_ℤ, nat_abs, refl, arith, w64, SFits, to_z, of_z, ltb-true}
use lib.IntN.{sub_ℕ}
use lib.Signed.{mag}
use mir.ValLaws.{to_z_pos, to_z-of_z}

pub size_neg : (z : ℤ) → nat_abs (neg_ℤ z) ≡ nat_abs z
size_neg (pos zero) = refl
size_neg (pos (suc n)) = refl
size_neg (negsuc n) = refl

by_order : (a b : ℕ) (t : Bool) → ltb a b ≡ t → nat_abs (cond t (negsuc (b - suc a)) (pos (a - b))) ≤ a + b
by_order a b true e = omega (arith, ltb-true a b e)
by_order a b false e = omega arith

pub size_diff : (a b : ℕ) → nat_abs (sub_ℕ a b) ≤ a + b
size_diff a b = by_order a b (ltb a b) refl

pub size-sum : (a b : ℤ) → nat_abs (a +ℤ b) ≤ nat_abs a + nat_abs b
size-sum (pos a) (pos b) = omega arith
size-sum (pos a) (negsuc b) = size_diff a (suc b)
size-sum (negsuc a) (pos b) = omega (arith, size_diff b (suc a))
size-sum (negsuc a) (negsuc b) = omega arith

pub size_sub : (a b : ℤ) → nat_abs (a -ℤ b) ≤ nat_abs a + nat_abs b
size_sub a b = omega (arith, size-sum a (neg_ℤ b), size_neg b)

pub size_mul : (a b : ℤ) → nat_abs (a *ℤ b) ≡ nat_abs a * nat_abs b
size_mul (pos a) (pos b) = refl
size_mul (pos a) (negsuc b) = size_neg (pos (a * suc b))
size_mul (negsuc a) (pos b) = size_neg (pos (suc a * b))
size_mul (negsuc a) (negsuc b) = refl

-- a number whose size is below 2^63 fits
pub fits : (z : ℤ) → nat_abs z < 2 ^ 63 → SFits w64 z
fits (pos n) h = record { sfits = h }
fits (negsuc n) h = record { sfits = omega arith }

-- a natural number below 2^63, read as signed, is itself
pub plain : (n : ℕ) → n < 2 ^ 63 → to_z w64 n ≡ pos n
plain n h = to_z_pos w64 n h

-- a number that fits, written and read back
pub back : (z : ℤ) → mag z < 2 ^ 63 → to_z w64 (of_z w64 z) ≡ z
back z h = to_z-of_z w64 z (record { sfits = h })

pub back_small : (z : ℤ) → nat_abs z < 2 ^ 63 → to_z w64 (of_z w64 z) ≡ z
back_small z h = to_z-of_z w64 z (fits z h)
