-- What it means that two numbers are near each other.
use Rattle.std.specs.Prelude.{ℕ, ◌+◌, ◌≤◌}

-- x and y differ by at most e
pub record Near (x y e : ℕ) : Type 0 where
  pub up : x ≤ y + e
  pub down : y ≤ x + e
