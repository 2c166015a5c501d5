-- Prices and yields. A price is a whole number of units of 0.0001; a yield Y, of 0.0001 per cent.
use Rattle.std.specs.Prelude.{ℕ, ◌-◌}

-- the price of yield 0: 100.0000
unfoldable pub par : ℕ
par = 1_000_000

-- Y, for a price up to par
unfoldable pub yield_at : ℕ → ℕ
yield_at p = par - p

-- a yield of 100 per cent
abbrev pub hundred_percent : ℕ
hundred_percent = 1_000_000
