-- Laws of sums over an index.
use Rattle.std.proofs.Common.{◌≡◌, ℕ, zero, suc, ◌+◌, ◌*◌, ◌<◌, ◌≤◌, refl, le_refl, add-le-add, mul-pos, arith}
use Rattle.numbers.specs.Sums.{sum_to}
use Rattle.numbers.specs.Fractions.{Fraction, added_to}

pub sum-none : (f : ℕ → ℕ) → sum_to 0 f ≡ 0
unfolding sum_to
sum-none f = refl

pub sum_next : (n : ℕ) (f : ℕ → ℕ) → sum_to (suc n) f ≡ sum_to n f + f (suc n)
unfolding sum_to
sum_next n f = refl

-- a factor of every term is one of the sum
pub sum-scale : (n q : ℕ) (f g : ℕ → ℕ) → ((k : ℕ) → k ≤ n → g k ≡ f k * q) → sum_to n g ≡ sum_to n f * q
unfolding sum_to
sum-scale zero q f g h = omega arith
sum-scale (suc n) q f g h = omega (arith, sum-scale n q f g (λ k l. h k (omega arith)), h (suc n) (le_refl _))

-- larger terms, larger sum
pub sum_rises : (n : ℕ) (f g : ℕ → ℕ) → ((k : ℕ) → f k ≤ g k) → sum_to n f ≤ sum_to n g
unfolding sum_to
sum_rises zero f g h = le_refl 0
sum_rises (suc n) f g h = add-le-add (sum_rises n f g h) (h (suc n))

-- n terms of at most m
pub sum_low : (n m : ℕ) (f : ℕ → ℕ) → ((k : ℕ) → f k ≤ m) → sum_to n f ≤ n * m
unfolding sum_to
sum_low zero m f h = omega arith
sum_low (suc n) m f h = omega (arith, sum_low n m f h, h (suc n))

-- ---- sums of fractions

pub added_next : (n : ℕ) (x : ℕ → Fraction) → ((added_to (suc n) x).num ≡ (added_to n x).num * (x (suc n)).den + (x (suc n)).num * (added_to n x).den)
    × ((added_to (suc n) x).den ≡ (added_to n x).den * (x (suc n)).den)
unfolding added_to
added_next n x = (refl, refl)

pub added_none : (x : ℕ → Fraction) → ((added_to 0 x).num ≡ 0) × ((added_to 0 x).den ≡ 1)
unfolding added_to
added_none x = (refl, refl)

pub added_proper : (n : ℕ) (x : ℕ → Fraction) → ((k : ℕ) → 0 < (x k).den) → 0 < (added_to n x).den
unfolding added_to
added_proper zero x h = omega arith
added_proper (suc n) x h = mul-pos (added_proper n x h) (h (suc n))
