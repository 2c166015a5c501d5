-- A position is the one that its bytes have, with its lots in two's complement.
use mathlib.Core.Path.{◌≡◌, sym, ap, ◌∙◌}
use mathlib.Core.List.{List, []}
use Prim.Native.Nat.{ℕ}
use Rattle.std.proofs.Math.ListN.{get_or-map}
use Rattle.numbers.specs.Bytes.{records_of}
use Rattle.dayfile.specs.Records.{position_size, position_of, positions_in, position_at, raw_position_of, raw_positions_in, raw_position_at}
pub use Rattle.dayfile.specs.Records.{signed_position}

-- a position as its bytes have it is the position
pub as_signed_position : (s : List ℕ) (i : ℕ) → signed_position (raw_position_at (raw_positions_in s) i) ≡ position_at (positions_in s) i
unfolding raw_position_at position_at
as_signed_position s i =
    let rs = records_of position_size s in
    ap signed_position (get_or-map raw_position_of rs i []) ∙ sym (get_or-map position_of rs i [])
