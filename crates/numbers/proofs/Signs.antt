-- The signs of differences and products.
use Rattle.std.proofs.Common.{◌≡◌, ℕ, zero, suc, ◌-◌, ◌*◌, ◌≤◌, ℤ, pos, negsuc, ◌-ℤ◌, ◌*ℤ◌, neg_ℤ, ◌≤ℤ◌, ap, arith, le→leb, leb→le, le-ltb}

-- of two numbers, the larger less the smaller
pub difference_is : (m n : ℕ) → m ≤ n → pos n -ℤ pos m ≡ pos (n - m)
difference_is zero n h = ap pos (omega arith)
difference_is (suc m) n h = rw (le-ltb n (suc m) h)

not_positive : (k : ℕ) → neg_ℤ (pos k) ≤ℤ pos 0
not_positive zero = record { le = tt }
not_positive (suc k) = record { le = tt }

-- times a number that is not negative
pub keeps-above : (z : ℤ) (d : ℕ) → pos 0 ≤ℤ z → pos 0 ≤ℤ (z *ℤ pos d)
keeps-above (pos k) d h = record { le = le→leb 0 (k * d) (omega arith) }
keeps-above (negsuc k) d h = absurd h.le

pub keeps_below : (z : ℤ) (d : ℕ) → z ≤ℤ pos 0 → (z *ℤ pos d) ≤ℤ pos 0
keeps_below (pos zero) d h = record { le = le→leb (0 * d) 0 (omega arith) }
keeps_below (pos (suc k)) d h = absurd (let x = leb→le (suc k) 0 h.le in omega arith)
keeps_below (negsuc k) d h = not_positive (suc k * d)
