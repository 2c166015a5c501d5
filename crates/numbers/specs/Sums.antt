-- Sums over an index.
use Rattle.std.specs.Prelude.{ℕ, zero, suc, ◌+◌}

-- f 1 + .. + f n
unfoldable pub sum_to : ℕ → (ℕ → ℕ) → ℕ
sum_to zero f = 0
sum_to (suc n) f = sum_to n f + f (suc n)
