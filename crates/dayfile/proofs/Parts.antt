-- The sections of a file that has the length of its layout.
use mathlib.Core.Path.{◌≡◌, ◌∙◌}
use mathlib.Core.List.{List, map}
use Prim.Native.Nat.{ℕ, ◌+◌, ◌*◌, ◌/◌, ◌≤◌}
use native.Mathlib.Omega.{arith}
use lib.ListN.{length}
use Rattle.numbers.specs.Bytes.{u32_at, part, records_of}
use Rattle.dayfile.specs.Records.{mark_size, correction_size, position_size, mark_of, correction_of, position_of, lists_of}
use Rattle.dayfile.specs.Layout.{counts_of, length_of, header_size, corrections_start, positions_start, mark_bytes, correction_bytes, position_bytes, lists_in, lists_of_file}
use Rattle.dayfile.specs.WithinLimits.{CountsWithinLimits, ListsWithinLimits}
use Rattle.dayfile.specs.declared.file.DayFile.{DayFile}
use Rattle.numbers.proofs.Sections.{size_is, length_part, part-within}

-- how many records stand in a part of a file
sized : {R : Type 0} (f : List ℕ → R) (w a k n : ℕ) (s : List ℕ) → a + k ≤ length s → k / w ≡ n → length (map f (records_of w (part a k s))) ≡ n
sized f w a k n s h e = size_is f w (part a k s) ∙ rw (length_part a k s h) e

-- the lists of a file that has the length of the layout
module _ (s : List ℕ) (d : DayFile) (whole : length s ≡ length_of d) where
  pub marks_sized : length (lists_in s d).marks ≡ d.marks
  marks_sized = sized mark_of mark_size header_size (mark_size * d.marks) d.marks s (omega (arith, whole)) (omega arith)

  pub corrections_sized : length (lists_in s d).corrections ≡ d.corrections
  corrections_sized = sized correction_of correction_size (corrections_start d) (correction_size * d.corrections) d.corrections s (omega (arith, whole)) (omega arith)

  pub positions_sized : length (lists_in s d).positions ≡ d.positions
  positions_sized = sized position_of position_size (positions_start d) (position_size * d.positions) d.positions s (omega (arith, whole)) (omega arith)

-- no part of a file has more records than its length gives
few : {R : Type 0} (f : List ℕ → R) (a n : ℕ) (s : List ℕ) {m : ℕ} → n ≤ m → length (map f (records_of 12 (part a (12 * n) s))) ≤ m
few f a n s h = rw (size_is f 12 (part a (12 * n) s)) (omega (arith, part-within a (12 * n) s))

-- those of a file with counts within the limits are within them, whatever its length
pub lists_within : (s : List ℕ) (d : DayFile) → CountsWithinLimits d → ListsWithinLimits (lists_in s d)
lists_within s d h =
    record {
      marks = few mark_of header_size d.marks s h.marks;
      corrections = few correction_of (corrections_start d) d.corrections s h.corrections;
      positions = few position_of (positions_start d) d.positions s h.positions;
    }

-- The lists of a file that has the length of the layout have as many records as its header counts: M, C and N.
pub header-counts : (f : List ℕ) → length f ≡ length_of (counts_of f)
    → (length (lists_of_file f).marks ≡ u32_at f 0) × (length (lists_of_file f).corrections ≡ u32_at f 8) × (length (lists_of_file f).positions ≡ u32_at f 16)
unfolding counts_of
header-counts f whole = (marks_sized f (counts_of f) whole, corrections_sized f (counts_of f) whole, positions_sized f (counts_of f) whole)

-- the three lists of a file's sections
pub lists_are : (s : List ℕ) (d : DayFile) {m c p : List ℕ} → m ≡ mark_bytes s d → c ≡ correction_bytes s d → p ≡ position_bytes s d → lists_of m c p ≡ lists_in s d
lists_are s d a b e = rw (a, b, e)
