-- The file of three lists of records: the header, then the lists one after the other.
use Rattle.std.specs.Prelude.{ℕ, List, ◌++◌, length}
use Rattle.numbers.specs.Bytes.{u32_bytes}
use Rattle.dayfile.specs.Records.{marks_in, corrections_in, positions_in}
use Rattle.dayfile.specs.Layout.{header_size, corrections_start, positions_start}
use Rattle.dayfile.specs.declared.file.DayFile.{DayFile}

-- the counts of three lists: how many whole records each has
unfoldable pub counts_in : List ℕ → List ℕ → List ℕ → DayFile
counts_in ms cs ps = record { marks = length (marks_in ms); corrections = length (corrections_in cs); positions = length (positions_in ps) }

-- a section in the header: its count and its offset
unfoldable pub entry_bytes : ℕ → ℕ → List ℕ
entry_bytes count at = u32_bytes count ++ u32_bytes at

unfoldable pub header_of : DayFile → List ℕ
header_of d =
    entry_bytes d.marks header_size
    ++ entry_bytes d.corrections (corrections_start d)
    ++ entry_bytes d.positions (positions_start d)

-- the file of three lists
unfoldable pub made_of : List ℕ → List ℕ → List ℕ → List ℕ
made_of ms cs ps = header_of (counts_in ms cs ps) ++ ms ++ cs ++ ps
