-- The bytes of a header and of a file, part by part.
use mathlib.Core.Path.{◌≡◌, ap, ◌∙◌}
use mathlib.Core.List.{List, ◌++◌}
use Prim.Native.Nat.{ℕ, ◌≤◌}
use lib.ListN.{length}
use Rattle.dayfile.specs.Layout.{header_size, corrections_start, positions_start}
use Rattle.dayfile.specs.Making.{entry_bytes, header_of}
use Rattle.dayfile.specs.declared.file.DayFile.{DayFile}
use Rattle.text.specs.Writing.{Wrote, fitted}
use Rattle.text.proofs.Writing.{fitted-is}

-- the same text and count under other names
pub wrote_as : {s t out after : List ℕ} {a b : ℕ} → s ≡ t → a ≡ b → Wrote s a out after → Wrote t b out after
wrote_as e f w = rw (← e, ← f) w

-- a list that has room
pub wrote_whole : {s out after : List ℕ} {n : ℕ} → length s ≤ length out → Wrote (fitted s out) n out after → Wrote s (length s) out after
wrote_whole {s} {out} h w = let e = fitted-is s out h in wrote_as e (w.count ∙ ap length e) w

pub header_by : (d : DayFile) {a b : ℕ} → a ≡ corrections_start d → b ≡ positions_start d
    → entry_bytes d.marks header_size ++ entry_bytes d.corrections a ++ entry_bytes d.positions b ≡ header_of d
unfolding header_of
header_by d p q = rw (p, q)
