-- The sizes that document 01 sets.
use Rattle.std.specs.Prelude.{ℕ}

-- how many records a file may have in each section
pub record Limits : Type 0 where
  pub marks : ℕ
  pub corrections : ℕ
  pub positions : ℕ

-- the day file's own
abbrev pub file_limits : Limits
file_limits = record { marks = 256; corrections = 512; positions = 4_096 }

-- the last year, and the most lots of a position, long or short
abbrev pub year_limit : ℕ
year_limit = 99

abbrev pub lots_limit : ℕ
lots_limit = 1_000_000
