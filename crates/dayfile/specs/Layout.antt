-- The header and the layout of a day file, and the three lists of a file.
use Rattle.std.specs.Prelude.{ℕ, ◌+◌, ◌*◌, List}
use Rattle.numbers.specs.Bytes.{u32_at, part}
use Rattle.dayfile.specs.Records.{mark_size, correction_size, position_size, Lists, lists_of}
use Rattle.dayfile.specs.declared.file.DayFile.{DayFile}

-- the counts of the header
unfoldable pub counts_of : List ℕ → DayFile
counts_of s = record { marks = u32_at s 0; corrections = u32_at s 8; positions = u32_at s 16 }

abbrev pub header_size : ℕ
header_size = 24

-- where each section starts, and where the file ends
abbrev pub corrections_start : DayFile → ℕ
corrections_start d = header_size + mark_size * d.marks

abbrev pub positions_start : DayFile → ℕ
positions_start d = corrections_start d + correction_size * d.corrections

abbrev pub length_of : DayFile → ℕ
length_of d = positions_start d + position_size * d.positions

-- the sections' bytes
abbrev pub mark_bytes : List ℕ → DayFile → List ℕ
mark_bytes s d = part header_size (mark_size * d.marks) s

abbrev pub correction_bytes : List ℕ → DayFile → List ℕ
correction_bytes s d = part (corrections_start d) (correction_size * d.corrections) s

abbrev pub position_bytes : List ℕ → DayFile → List ℕ
position_bytes s d = part (positions_start d) (position_size * d.positions) s

abbrev pub lists_in : List ℕ → DayFile → Lists
lists_in s d = lists_of (mark_bytes s d) (correction_bytes s d) (position_bytes s d)

-- the three lists of a file
abbrev pub lists_of_file : List ℕ → Lists
lists_of_file s = lists_in s (counts_of s)
