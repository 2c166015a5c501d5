-- For every list of corrections sent again there is the file that has it, brought into line.
use mathlib.Core.Path.{◌≡◌, refl, sym, ap, ◌∙◌}
use mathlib.Core.List.Memᴰ
use mathlib.Core.List.{List, [], ◌∷◌, Memᴰ}
use Prim.Native.Nat.{ℕ, zero, suc, ◌+◌, ◌*◌, ◌/◌, ◌≤◌}
use native.Mathlib.Omega.{arith}
use lib.IntN.{ℤ}
use lib.ListN.{length, drop, length-append, length-drop, length-map}
use lib.Seq.{take_at, drop_at, length-take-le}
use Rattle.numbers.specs.Bytes.{Bytes, u32_at, records, records_of, bytes_of}
use Rattle.numbers.proofs.Bytes.{part_bytes, record_bytes, all_bytes}
use Rattle.dayfile.specs.Records.{correction_size, correction_of, mark_size, position_size}
use Rattle.dayfile.specs.Limits.{file_limits}
use Rattle.dayfile.specs.Opening.{opened_of}
use Rattle.dayfile.specs.WithinLimits.{WholeRecords}
use Rattle.dayfile.specs.Layout.{counts_of, mark_bytes, correction_bytes, position_bytes, header_size, corrections_start, positions_start}
use Rattle.settlement.specs.Settling.{settled, answer_of}
use Rattle.settlement.specs.Resend.{SentAgain, correction_records, Resent}
use Rattle.dayfile.specs.Making.{counts_in, made_of}
use Rattle.dayfile.specs.declared.file.DayFile.{DayFile}
use Rattle.dayfile.specs.Opening.{File}
use Rattle.numbers.proofs.Sections.{size_is}
use Rattle.dayfile.proofs.Parts.{corrections_sized}
use Rattle.settlement.proofs.Resending.{sent_within, sent_length}
use Rattle.dayfile.proofs.Opening.{opens, laid_out, opens_file}
use Rattle.settlement.proofs.Accepted.{settled_accepted}
use Rattle.dayfile.proofs.Made.{counts_by, sections_whole, made-counts, made-length, made-marks, made-corrections, made-positions, made-is-bytes}
use Rattle.dayfile.proofs.Made.{made-marks-at, made-corrections-at, made-positions-at}

-- ---- records of one size and their bytes

module _ (w : ℕ) where
  abbrev Sized : List (List ℕ) → Type 0
  Sized rs = (r : List ℕ) → Memᴰ r rs → length r ≡ w

  length-bytes_of : (rs : List (List ℕ)) → Sized rs → length (bytes_of rs) ≡ w * length rs
  length-bytes_of [] h = omega arith
  length-bytes_of (r ∷ rs) h =
      let e = h r (Memᴰ.head refl) in
      let q = length-bytes_of rs (λ x m. h x (Memᴰ.tail m)) in
      rw (length-append r (bytes_of rs)) (omega arith)

  records-bytes_of : (rs : List (List ℕ)) → Sized rs → records w (length rs) (bytes_of rs) ≡ rs
  records-bytes_of [] h = refl
  records-bytes_of (r ∷ rs) h =
      let e = h r (Memᴰ.head refl) in
      rw (take_at r (bytes_of rs) w e, drop_at r (bytes_of rs) w e, records-bytes_of rs (λ x m. h x (Memᴰ.tail m)))

  records_sized : (n : ℕ) (s : List ℕ) → w * n ≤ length s → Sized (records w n s)
  records_sized zero s h r m = absurd (Memᴰ.not-nil m)
  records_sized (suc n) s h r (Memᴰ.head e) = ap length e ∙ length-take-le w s (omega arith)
  records_sized (suc n) s h r (Memᴰ.tail m) = records_sized n (drop w s) (rw (length-drop w s) (omega arith)) r m

-- the records of a section are of the correction's size, and back from their bytes
corrections-whole : (s : List ℕ) → Sized correction_size (records_of correction_size s)
unfolding records_of
corrections-whole s = records_sized correction_size (length s / correction_size) s (omega arith)

corrections_again : (rs : List (List ℕ)) → Sized correction_size rs → records_of correction_size (bytes_of rs) ≡ rs
unfolding records_of
corrections_again rs h =
    let q : length (bytes_of rs) / correction_size ≡ length rs = (let l = length-bytes_of correction_size rs h in omega arith) in
    rw q (records-bytes_of correction_size rs h)

-- ---- the file

-- the file f with other corrections, brought into line
abbrev pub with_corrections : List ℕ → List (List ℕ) → List ℕ
with_corrections f rs = made_of (mark_bytes f (counts_of f)) (bytes_of rs) (position_bytes f (counts_of f))

module _ (f : List ℕ) (o : opened_of file_limits f ≡ File (counts_of f)) (ds : List (List ℕ)) {copies : ℕ}
    (sent : SentAgain (correction_records f) (correction_records f) ds copies) (few : length ds ≤ file_limits.corrections) where
  abbrev pub counts : DayFile
  counts = record { marks = (counts_of f).marks; corrections = length ds; positions = (counts_of f).positions }

  sized : Sized correction_size ds
  sized r m = corrections-whole (correction_bytes f (counts_of f)) r (sent_within sent (λ c n. n) r m)

  pub whole : WholeRecords (mark_bytes f (counts_of f)) (bytes_of ds) (position_bytes f (counts_of f)) counts
  unfolding counts_in
  whole =
      let w = sections_whole f o in
      let n : length (bytes_of ds) ≡ correction_size * length ds = length-bytes_of correction_size ds sized in
      let k : length (bytes_of ds) / correction_size ≡ length ds = omega arith in
      record {
        counts-within = record { marks = w.counts-within.marks; corrections = few; positions = w.counts-within.positions };
        counts = sym (counts_by counts (sym (ap (λ (e : DayFile). e.marks) w.counts))
            (size_is correction_of correction_size (bytes_of ds) ∙ k) (sym (ap (λ (e : DayFile). e.positions) w.counts)));
        marks = w.marks;
        corrections = n;
        positions = w.positions;
      }

  longer : length ds ≡ (counts_of f).corrections + copies
  longer =
      let a = length-map (correction_records f) correction_of in
      let b = corrections_sized f (counts_of f) (laid_out f o).whole in
      let k = sent_length sent in
      omega arith

  pub records_are : correction_records (with_corrections f ds) ≡ ds
  records_are = rw (made-counts _ _ _ counts whole, made-corrections _ _ _ counts whole) (corrections_again ds sized)

  -- it is the file sent again
  pub resent_made : Resent f (with_corrections f ds) copies
  unfolding counts_of
  resent_made =
      let (h, q) = opens file_limits f o in
      let c = made-counts _ _ _ counts whole in
      record {
        corrections = rw records_are sent;
        marks = ap (mark_bytes (with_corrections f ds)) c ∙ made-marks _ _ _ counts whole;
        positions = ap (position_bytes (with_corrections f ds)) c ∙ made-positions _ _ _ counts whole;
        mark-count = ap (λ (e : DayFile). e.marks) c;
        correction_count = ap (λ (e : DayFile). e.corrections) c ∙ longer;
        position_count = ap (λ (e : DayFile). e.positions) c;
        marks_offset = made-marks-at _ _ _ counts whole ∙ sym h.marks-at;
        corrections_offset = made-corrections-at _ _ _ counts whole ∙ sym h.corrections-at;
        positions_offset = omega (arith, made-positions-at _ _ _ counts whole, h.positions-at, longer);
        file-length = omega (arith, made-length _ _ _ counts whole, h.ends_at, longer);
      }

  pub few-counted : u32_at (with_corrections f ds) 8 ≤ file_limits.corrections
  unfolding counts_of
  few-counted = omega (arith, ap (λ (e : DayFile). e.corrections) (made-counts _ _ _ counts whole), few)

  -- and a file of bytes where f is one
  made_of-bytes : Bytes f → Bytes (with_corrections f ds)
  unfolding records_of
  made_of-bytes b =
      let d = counts_of f in
      let cs = correction_bytes f d in
      let c = part_bytes (corrections_start d) (correction_size * d.corrections) f b in
      made-is-bytes (mark_bytes f d) (bytes_of ds) (position_bytes f d) (part_bytes header_size (mark_size * d.marks) f b)
      (all_bytes ds (λ r m. record_bytes correction_size (length cs / correction_size) cs c r (sent_within sent (λ c n. n) r m)))
      (part_bytes (positions_start d) (position_size * d.positions) f b)

-- for every list of corrections sent again within the limit there is the file that has it
pub resent_exists : (f : List ℕ) (ds : List (List ℕ)) (copies n k : ℕ) (x y : ℤ) (a : List ℤ) → answer_of file_limits f (length a) ≡ settled n x y k
    → SentAgain (correction_records f) (correction_records f) ds copies → length ds ≤ file_limits.corrections
    → (g : List ℕ) × Resent f g copies × (correction_records g ≡ ds) × (u32_at g 8 ≤ file_limits.corrections) × (Bytes f → Bytes g)
resent_exists f ds copies n k x y a e sent few =
    let o = opens_file file_limits f (settled_accepted file_limits f (length a) e).opens in
    (with_corrections f ds, resent_made f o ds sent few, records_are f o ds sent few, few-counted f o ds sent few, made_of-bytes f o ds sent few)
