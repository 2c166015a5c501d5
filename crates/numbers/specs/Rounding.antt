-- Rounding to the nearest whole number.
use Rattle.std.specs.Prelude.{ℕ, ◌+◌, ◌*◌, ◌/◌}

-- x / d rounded: to the nearest whole number, a half going up
unfoldable pub nearest : ℕ → ℕ → ℕ
nearest x d = (2 * x + d) / (2 * d)
