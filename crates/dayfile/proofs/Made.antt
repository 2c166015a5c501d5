-- The file of three lists of records: its header, its length and its sections.
use mathlib.Core.Path.{◌≡◌, refl, sym, ap, ap₂, ◌∙◌}
use mathlib.Core.List.{List, ◌++◌, append_assoc}
use Prim.Native.Nat.{ℕ, ◌+◌, ◌*◌, ◌≤◌}
use native.Mathlib.Omega.{arith}
use lib.ListN.{length, take, drop, length-append}
use lib.Seq.{take-add, take_all, drop-drop}
use Rattle.numbers.specs.Bytes.{Bytes, u32_at, u32_bytes, part}
use Rattle.numbers.proofs.Bytes.{append-bytes, u32_bytes_lem, from_bytes, u32_again}
use Rattle.numbers.proofs.Sections.{length_part, part_at, part_end}
use Rattle.dayfile.specs.Records.{mark_size, correction_size, position_size, lists_of}
use Rattle.dayfile.specs.Limits.{Limits, file_limits}
use Rattle.dayfile.specs.Layout.{header_size, counts_of, corrections_start, positions_start, length_of, mark_bytes, correction_bytes, position_bytes, lists_of_file}
use Rattle.dayfile.specs.Opening.{opened_of}
use Rattle.dayfile.specs.WithinLimits.{WholeRecords}
use Rattle.dayfile.specs.Making.{counts_in, entry_bytes, header_of, made_of}
use Rattle.dayfile.specs.declared.file.DayFile.{DayFile}
use Rattle.dayfile.specs.Opening.{File}
use Rattle.dayfile.proofs.Parts.{marks_sized, corrections_sized, positions_sized}
use Rattle.dayfile.proofs.Opening.{opens, opens_file, laid_out}

-- ---- a made file

pub length-header : (d : DayFile) → length (header_of d) ≡ header_size
unfolding header_of entry_bytes u32_bytes
length-header d = refl

pub made_by : (ms cs ps : List ℕ) {d : DayFile} → d ≡ counts_in ms cs ps → header_of d ++ ms ++ cs ++ ps ≡ made_of ms cs ps
unfolding made_of
made_by ms cs ps e = ap (λ d. header_of d ++ ms ++ cs ++ ps) e

pub counts_by : (d : DayFile) {a b c : ℕ} → a ≡ d.marks → b ≡ d.corrections → c ≡ d.positions → ◌≡◌ {A = DayFile} (record { marks = a; corrections = b; positions = c }) d
counts_by d p q r = rw (p, q, r)

module _ (ms cs ps : List ℕ) (d : DayFile) (w : WholeRecords ms cs ps d) where
  abbrev made : List ℕ
  made = made_of ms cs ps

  made-is : made ≡ header_of d ++ ms ++ cs ++ ps
  made-is = sym (made_by ms cs ps w.counts)

  pub made-counts : counts_of made ≡ d
  unfolding counts_of u32_at header_of entry_bytes u32_bytes
  made-counts =
      let l = w.counts-within in
      rw made-is (counts_by d (from_bytes d.marks (omega arith)) (from_bytes d.corrections (omega arith)) (from_bytes d.positions (omega arith)))

  pub made-length : length made ≡ length_of d
  made-length =
      rw (made-is, length-append (header_of d ++ ms ++ cs) ps, length-append (header_of d ++ ms) cs, length-append (header_of d) ms, length-header d)
      (omega (arith, w.marks, w.corrections, w.positions))

  pub made-marks-at : u32_at made 4 ≡ header_size
  unfolding u32_at header_of entry_bytes u32_bytes
  made-marks-at = rw made-is

  pub made-corrections-at : u32_at made 12 ≡ corrections_start d
  unfolding u32_at header_of entry_bytes u32_bytes
  made-corrections-at = let l = w.counts-within in rw made-is (from_bytes (corrections_start d) (omega arith))

  pub made-positions-at : u32_at made 20 ≡ positions_start d
  unfolding u32_at header_of entry_bytes u32_bytes
  made-positions-at = let l = w.counts-within in rw made-is (from_bytes (positions_start d) (omega arith))

  pub made-marks : mark_bytes made d ≡ ms
  made-marks = rw (made-is, append_assoc (header_of d ++ ms) cs ps) (part_at (header_of d) ms (cs ++ ps) header_size (mark_size * d.marks) (length-header d) w.marks)

  pub made-corrections : correction_bytes made d ≡ cs
  made-corrections =
      let h : length (header_of d ++ ms) ≡ corrections_start d = rw (length-append (header_of d) ms, length-header d) (omega (arith, w.marks)) in
      rw made-is (part_at (header_of d ++ ms) cs ps (corrections_start d) (correction_size * d.corrections) h w.corrections)

  pub made-positions : position_bytes made d ≡ ps
  made-positions =
      let h : length (header_of d ++ ms ++ cs) ≡ positions_start d = rw (length-append (header_of d ++ ms) cs, length-append (header_of d) ms, length-header d) (omega (arith, w.marks, w.corrections)) in
      rw made-is (part_end (header_of d ++ ms ++ cs) ps (positions_start d) (position_size * d.positions) h w.positions)

  pub made_lists : lists_of_file made ≡ lists_of ms cs ps
  made_lists = rw (made-counts, made-marks, made-corrections, made-positions)

  -- it opens, at any limits that its counts are within
  pub made_opens : (l : Limits) → d.marks ≤ l.marks → d.corrections ≤ l.corrections → d.positions ≤ l.positions → opened_of l made ≡ File d
  unfolding counts_of
  made_opens l m c p =
      let e = made-counts in
      opens_file l made
      (record {
        header = rw made-length (omega arith);
        marks_fit = rw (ap (λ (x : DayFile). x.marks) e) m;
        corrections_fit = rw (ap (λ (x : DayFile). x.corrections) e) c;
        positions_fit = rw (ap (λ (x : DayFile). x.positions) e) p;
        marks-at = made-marks-at;
        corrections-at = made-corrections-at ∙ ap corrections_start (sym e);
        positions-at = made-positions-at ∙ ap positions_start (sym e);
        ends_at = made-length ∙ ap length_of (sym e);
      })
      ∙ ap File e

-- ---- a file that opens

-- a section's entry in the header, from which its count and offset were read
entry_again : (f : List ℕ) (i : ℕ) {n a : ℕ} → Bytes f → i + 8 ≤ length f → n ≡ u32_at f i → a ≡ u32_at f (i + 4) → entry_bytes n a ≡ part i 8 f
unfolding entry_bytes
entry_again f i b h p q =
    let e : u32_bytes (u32_at f i) ≡ part i 4 f = u32_again f i b (omega arith) in
    let g : u32_bytes (u32_at f (i + 4)) ≡ part (i + 4) 4 f = u32_again f (i + 4) b (omega arith) in
    rw (p, q, e, g) (sym (take-add 4 4 (drop i f) ∙ ap (λ t. part i 4 f ++ take 4 t) (drop-drop 4 i f)))

module _ (f : List ℕ) {d : DayFile} (o : opened_of file_limits f ≡ File d) where
  -- the sections of a file that opens are whole records
  pub sections_whole : WholeRecords (mark_bytes f d) (correction_bytes f d) (position_bytes f d) d
  unfolding counts_in
  sections_whole =
      let h = laid_out f o in
      let n = h.whole in
      record {
        counts-within = h.counts-within;
        counts = sym (counts_by d (marks_sized f d h.whole) (corrections_sized f d h.whole) (positions_sized f d h.whole));
        marks = length_part header_size (mark_size * d.marks) f (omega arith);
        corrections = length_part (corrections_start d) (correction_size * d.corrections) f (omega arith);
        positions = length_part (positions_start d) (position_size * d.positions) f (omega arith);
      }

  header_again : Bytes f → header_of d ≡ take header_size f
  unfolding header_of counts_of
  header_again b =
      let (h, q) = opens file_limits f o in
      let n = h.header in
      let m = entry_again f 0 b (omega arith) (ap (λ (x : DayFile). x.marks) (sym q)) (sym h.marks-at) in
      let c = entry_again f 8 b (omega arith) (ap (λ (x : DayFile). x.corrections) (sym q)) (sym (h.corrections-at ∙ ap corrections_start q)) in
      let p = entry_again f 16 b (omega arith) (ap (λ (x : DayFile). x.positions) (sym q)) (sym (h.positions-at ∙ ap positions_start q)) in
      ap₂ (λ x y. x ++ y) (ap₂ (λ x y. x ++ y) m c ∙ sym (take-add 8 8 f)) p ∙ sym (take-add 16 8 f)

  -- the file of its sections is the file itself
  pub made_again : Bytes f → made_of (mark_bytes f d) (correction_bytes f d) (position_bytes f d) ≡ f
  made_again b =
      let n = (laid_out f o).whole in
      made-is _ _ _ d sections_whole
      ∙ ap (λ x. x ++ mark_bytes f d ++ correction_bytes f d ++ position_bytes f d) (header_again b)
      ∙ ap (λ x. x ++ correction_bytes f d ++ position_bytes f d) (sym (take-add header_size (mark_size * d.marks) f))
      ∙ ap (λ x. x ++ position_bytes f d) (sym (take-add (corrections_start d) (correction_size * d.corrections) f))
      ∙ sym (take-add (positions_start d) (position_size * d.positions) f)
      ∙ take_all (length_of d) f (omega arith)

-- ---- bytes

entry-is-bytes : (count at : ℕ) → Bytes (entry_bytes count at)
unfolding entry_bytes
entry-is-bytes count at = append-bytes (u32_bytes count) (u32_bytes at) (u32_bytes_lem count) (u32_bytes_lem at)

header-is-bytes : (d : DayFile) → Bytes (header_of d)
unfolding header_of
header-is-bytes d =
    let m = entry_bytes d.marks header_size in
    let c = entry_bytes d.corrections (corrections_start d) in
    let p = entry_bytes d.positions (positions_start d) in
    append-bytes (m ++ c) p (append-bytes m c (entry-is-bytes _ _) (entry-is-bytes _ _)) (entry-is-bytes _ _)

pub made-is-bytes : (ms cs ps : List ℕ) → Bytes ms → Bytes cs → Bytes ps → Bytes (made_of ms cs ps)
unfolding made_of
made-is-bytes ms cs ps m c p =
    let h = header_of (counts_in ms cs ps) in
    append-bytes (h ++ ms ++ cs) ps (append-bytes (h ++ ms) cs (append-bytes h ms (header-is-bytes (counts_in ms cs ps)) m) c) p
