-- A digest: one number for a list of numbers.
use Rattle.std.specs.Prelude.{ℕ, ◌+◌, ◌*◌, ◌%◌}

-- the largest prime below 2 ^ 56
abbrev pub prime : ℕ
prime = 72057594037927931

-- the digest h with the number n after it
unfoldable pub digest_with : ℕ → ℕ → ℕ
digest_with h n = (h * 131 + n) % prime
