-- Files and lists within the limits.
use Rattle.std.specs.Prelude.{◌≡◌, ℕ, ◌*◌, ◌≤◌, List, length}
use Rattle.dayfile.specs.Limits.{file_limits}
use Rattle.dayfile.specs.Records.{Lists, mark_size, correction_size, position_size}
use Rattle.dayfile.specs.Layout.{length_of}
use Rattle.dayfile.specs.Making.{counts_in}
use Rattle.dayfile.specs.declared.file.DayFile.{DayFile}

-- the counts are within the file's limits
pub record CountsWithinLimits (d : DayFile) : Type 0 where
  pub marks : d.marks ≤ file_limits.marks
  pub corrections : d.corrections ≤ file_limits.corrections
  pub positions : d.positions ≤ file_limits.positions

-- and the file has the length that they give
pub record LaidOut (s : List ℕ) (d : DayFile) : Type 0 where
  pub counts-within : CountsWithinLimits d
  pub whole : length s ≡ length_of d

-- three lists within the file's limits
pub record ListsWithinLimits (ls : Lists) : Type 0 where
  pub marks : length ls.marks ≤ file_limits.marks
  pub corrections : length ls.corrections ≤ file_limits.corrections
  pub positions : length ls.positions ≤ file_limits.positions

-- three lists of whole records within the file's limits, with their counts
pub record WholeRecords (ms cs ps : List ℕ) (d : DayFile) : Type 0 where
  pub counts-within : CountsWithinLimits d
  pub counts : d ≡ counts_in ms cs ps
  pub marks : length ms ≡ mark_size * d.marks
  pub corrections : length cs ≡ correction_size * d.corrections
  pub positions : length ps ≡ position_size * d.positions
