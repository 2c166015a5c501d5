-- Marks, corrections and positions, as a record's bytes have them, and the three lists of them.
use Rattle.std.specs.Prelude.{ℕ, List, [], map, get_or}
use Rattle.numbers.specs.Bytes.{byte_at, u32_at, signed, records_of}
use Rattle.dayfile.specs.declared.records.Mark.{Mark}
use Rattle.dayfile.specs.declared.records.Correction.{Correction}
use Rattle.dayfile.specs.declared.records.Position.{Position}
use Rattle.dayfile.specs.declared.records.RawPosition.{RawPosition}

-- the size of a record in bytes, the same for each kind
abbrev pub record_size : ℕ
record_size = 12

abbrev pub mark_size : ℕ
mark_size = 12

abbrev pub correction_size : ℕ
correction_size = 12

abbrev pub position_size : ℕ
position_size = 12

abbrev pub mark_of : List ℕ → Mark
mark_of r =
    record {
      code = (byte_at r 0, byte_at r 1);
      month = byte_at r 2;
      year = byte_at r 3;
      previous = u32_at r 4;
      today = u32_at r 8;
    }

abbrev pub correction_of : List ℕ → Correction
correction_of r = record { number = u32_at r 0; mark = u32_at r 4; price = u32_at r 8 }

abbrev pub position_of : List ℕ → Position
position_of r = record { account = u32_at r 0; mark = u32_at r 4; lots = signed (u32_at r 8) }

-- a position as its bytes have it, the lots in two's complement
abbrev pub raw_position_of : List ℕ → RawPosition
raw_position_of r = record { account = u32_at r 0; mark = u32_at r 4; lots = u32_at r 8 }

-- the position of three numbers of 32 bits
abbrev pub signed_position : RawPosition → Position
signed_position w = record { account = w.account; mark = w.mark; lots = signed w.lots }

-- the records of a section
abbrev pub marks_in : List ℕ → List Mark
marks_in s = map mark_of (records_of mark_size s)

abbrev pub corrections_in : List ℕ → List Correction
corrections_in s = map correction_of (records_of correction_size s)

abbrev pub positions_in : List ℕ → List Position
positions_in s = map position_of (records_of position_size s)

abbrev pub raw_positions_in : List ℕ → List RawPosition
raw_positions_in s = map raw_position_of (records_of position_size s)

-- the record with index i, all zero where there is none
unfoldable pub mark_at : List Mark → ℕ → Mark
mark_at ms i = get_or ms i (mark_of [])

unfoldable pub correction_at : List Correction → ℕ → Correction
correction_at cs i = get_or cs i (correction_of [])

unfoldable pub position_at : List Position → ℕ → Position
position_at ps i = get_or ps i (position_of [])

unfoldable pub raw_position_at : List RawPosition → ℕ → RawPosition
raw_position_at ws i = get_or ws i (raw_position_of [])

-- what the checks and the settlement look at: the three lists
pub record Lists : Type 0 where
  pub marks : List Mark
  pub corrections : List Correction
  pub positions : List Position

abbrev pub lists_of : List ℕ → List ℕ → List ℕ → Lists
lists_of ms cs ps = record { marks = marks_in ms; corrections = corrections_in cs; positions = positions_in ps }
