-- From the maker's answer to the file, and from a file to the maker's answer.
use mathlib.Core.Path.{◌≡◌, refl, sym, ap, ◌∙◌}
use mathlib.Core.Bool.{Bool, true, false, not, ◌||◌}
use mathlib.Core.List.{List}
use mathlib.Core.Logic.{◌↔◌, ◌≢◌}
use Prim.Native.Nat.{ℕ, ◌%◌, ◌≤◌}
use native.Mathlib.Omega.{arith}
use lib.Dec.{eqb}
use lib.ListN.{length, take, drop, length-append, length-drop}
use lib.Seq.{take_at, drop_at}
use Rattle.numbers.specs.Bytes.{Bytes}
use Rattle.numbers.specs.Order.{or_later, Decision, Met, Unmet}
use Rattle.numbers.specs.Checks.{only, ◌before◌, decision_of}
use Rattle.numbers.proofs.Truth.{Tells, not_both, tells_as, tells_or, tells_not, tells_lt, tells_divides, or_three, or_three_back}
use Rattle.numbers.proofs.Checks.{Agree, agree_only, agree_before, refuses_exactly, passes_exactly, number_passes}
use Rattle.numbers.proofs.Sections.{size_is}
use Rattle.dayfile.specs.Limits.{Limits, file_limits}
use Rattle.dayfile.specs.Records.{mark_size, correction_size, position_size, mark_of, correction_of, position_of, lists_of}
use Rattle.dayfile.specs.Layout.{counts_of, mark_bytes, correction_bytes, position_bytes}
use Rattle.dayfile.specs.Opening.{opened_of}
use Rattle.dayfile.specs.Making.{counts_in, made_of}
use Rattle.dayfile.specs.WithinLimits.{WholeRecords}
use Rattle.dayfile.specs.declared.file.DayFile.{DayFile}
use Rattle.dayfile.specs.Opening as opened
use Rattle.dayfile.proofs.Made.{made-counts, made-length, made-marks, made-corrections, made-positions, made-marks-at, made-corrections-at, made-positions-at, made_opens, made_again, sections_whole}
use Rattle.checks.specs.Judging.{record_checks, file_checks, too_many_records}
use Rattle.checks.proofs.Agreement.{records_agree, many_records}
use Rattle.checks.proofs.Passed.{few-records, passed_parts, parts_passed}
use Rattle.text.specs.Writing.{over}
use Rattle.making.specs.Conditions.{broken_list, room_check, making_checks, NotMade, CanBeMade}
use Rattle.making.specs.Making.{DayFileOf, made, refused, answer_by, answer_of, buffer_after}
use Rattle.making.proofs.Planned.{Fitting, fitting, none_refuses, fits_decided, whole_lists, number_of, two_refuses, three_refuses, left_to_records}

-- ---- the checks in words

tells_broken : (ms cs ps : List ℕ) → Tells ((broken_list ms cs ps).test 0) ((broken_list ms cs ps).Condition 0)
tells_broken ms cs ps =
    let whole-marks = eqb (length ms % mark_size) 0 in
    let whole-corrections = eqb (length cs % correction_size) 0 in
    let whole-positions = eqb (length ps % position_size) 0 in
    tells_as or_three or_three_back
    (tells_or (not whole-marks || not whole-corrections) (not whole-positions)
    (tells_or (not whole-marks) (not whole-corrections) (tells_not whole-marks (tells_divides mark_size (length ms))) (tells_not whole-corrections (tells_divides correction_size (length cs))))
    (tells_not whole-positions (tells_divides position_size (length ps))))

module _ (l : Limits) (ms cs ps : List ℕ) (room : ℕ) where
  agrees : Agree (making_checks ms cs ps l room)
  agrees =
      let ls = lists_of ms cs ps in
      let of_room = only (room_check ms cs ps room) in
      let of-records = record_checks ls before of_room in
      agree_before (only (too_many_records l ls)) (only (broken_list ms cs ps) before of-records) (agree_only (too_many_records l ls) (λ i. many_records l ls))
      (agree_before (only (broken_list ms cs ps)) of-records (agree_only (broken_list ms cs ps) (λ i. tells_broken ms cs ps))
      (agree_before (record_checks ls) of_room (records_agree ls) (agree_only (room_check ms cs ps room) (λ i. tells_lt room (length (made_of ms cs ps))))))

  refused_by : (file : List ℕ) (d : Decision) {k i : ℕ} → answer_by file d ≡ refused k i → d ≡ Met k i
  refused_by file (Met k i) e = cc
  refused_by file Unmet e = cc

  made_by_decision : (file : List ℕ) (d : Decision) {n : ℕ} → answer_by file d ≡ made n → (d ≡ Unmet) × (length file ≡ n)
  made_by_decision file (Met k i) e = cc
  made_by_decision file Unmet e = (refl, cc)

  -- lists are refused exactly by the first check whose condition holds
  pub refused_exactly : {k i : ℕ} → (answer_of l ms cs ps room ≡ refused k i) ↔ NotMade ms cs ps l room k i
  unfolding answer_of
  refused_exactly = (
    λ e. (refuses_exactly (making_checks ms cs ps l room) agrees).0 (refused_by (made_of ms cs ps) (decision_of (making_checks ms cs ps l room)) e),
    λ h. ap (answer_by (made_of ms cs ps)) ((refuses_exactly (making_checks ms cs ps l room) agrees).1 h),
  )

  -- and their file is made exactly where none holds
  pub made_exactly : (answer_of l ms cs ps room ≡ made (length (made_of ms cs ps))) ↔ CanBeMade ms cs ps l room
  unfolding answer_of
  made_exactly = (
    λ e. (passes_exactly (making_checks ms cs ps l room) agrees).0 (made_by_decision (made_of ms cs ps) (decision_of (making_checks ms cs ps l room)) e).0,
    λ h. ap (answer_by (made_of ms cs ps)) ((passes_exactly (making_checks ms cs ps l room) agrees).1 h),
  )

  -- what is decided where a file is made
  pub made_decided : {n : ℕ} → answer_of l ms cs ps room ≡ made n → (decision_of (making_checks ms cs ps l room) ≡ Unmet) × (length (made_of ms cs ps) ≡ n)
  unfolding answer_of
  made_decided e = made_by_decision (made_of ms cs ps) (decision_of (making_checks ms cs ps l room)) e

  pub refused_decided : {k i : ℕ} → answer_of l ms cs ps room ≡ refused k i → decision_of (making_checks ms cs ps l room) ≡ Met k i
  unfolding answer_of
  refused_decided e = refused_by (made_of ms cs ps) (decision_of (making_checks ms cs ps l room)) e

-- ---- the buffer

pub refusal_leaves : (l : Limits) (ms cs ps out : List ℕ) {k i : ℕ} → answer_of l ms cs ps (length out) ≡ refused k i → buffer_after l ms cs ps out ≡ out
unfolding buffer_after
refusal_leaves l ms cs ps out e = rw (refused_decided l ms cs ps (length out) e)

module _ (l : Limits) (ms cs ps out : List ℕ) {n : ℕ} (e : answer_of l ms cs ps (length out) ≡ made n) where
  over_buffer : buffer_after l ms cs ps out ≡ over (made_of ms cs ps) out
  unfolding buffer_after
  over_buffer = rw (made_decided l ms cs ps (length out) e).0

  pub file_stands : take n (buffer_after l ms cs ps out) ≡ made_of ms cs ps
  file_stands = rw over_buffer (take_at (made_of ms cs ps) _ n (made_decided l ms cs ps (length out) e).1)

  pub rest-kept : drop n (buffer_after l ms cs ps out) ≡ drop n out
  rest-kept =
      let long = (made_decided l ms cs ps (length out) e).1 in
      rw over_buffer (drop_at (made_of ms cs ps) _ n long ∙ ap (λ (k : ℕ). drop k out) long)

  pub has_room : n ≤ length out
  has_room =
      let (u, long) = made_decided l ms cs ps (length out) e in
      rw (← long) (none_refuses l ms cs ps (length out) u).3

  pub length-kept : length (buffer_after l ms cs ps out) ≡ length out
  length-kept =
      let (u, long) = made_decided l ms cs ps (length out) e in
      let room : length (made_of ms cs ps) ≤ length out = rw long has_room in
      rw (over_buffer, length-append (made_of ms cs ps) (drop (length (made_of ms cs ps)) out), length-drop (length (made_of ms cs ps)) out) (omega arith)

-- ---- a made file

pub made_laid_out : (ms cs ps : List ℕ) → WholeRecords ms cs ps (counts_in ms cs ps) → DayFileOf (made_of ms cs ps) ms cs ps
unfolding counts_of counts_in
made_laid_out ms cs ps w =
    let d = counts_in ms cs ps in
    let c = made-counts ms cs ps d w in
    let marks-at = made-marks-at ms cs ps d w in
    let corrections-at = made-corrections-at ms cs ps d w in
    let positions-at = made-positions-at ms cs ps d w in
    record {
      mark-count = ap (λ (d : DayFile). d.marks) c ∙ size_is mark_of mark_size ms;
      marks_offset = marks-at;
      correction_count = ap (λ (d : DayFile). d.corrections) c ∙ size_is correction_of correction_size cs;
      corrections_offset = omega (arith, corrections-at, w.marks);
      position_count = ap (λ (d : DayFile). d.positions) c ∙ size_is position_of position_size ps;
      positions_offset = omega (arith, positions-at, w.marks, w.corrections);
      marks = rw (marks-at, w.marks) (made-marks ms cs ps d w);
      corrections = rw (corrections-at, w.corrections) (made-corrections ms cs ps d w);
      positions = rw (positions-at, w.positions) (made-positions ms cs ps d w);
      file-length = omega (arith, made-length ms cs ps d w, w.marks, w.corrections, w.positions);
    }

-- a file that passes checks 1 to 13 and 16, and whose sections are these lists
pub record Reads (f ms cs ps : List ℕ) : Type 0 where
  pub marks : mark_bytes f (counts_of f) ≡ ms
  pub corrections : correction_bytes f (counts_of f) ≡ cs
  pub positions : position_bytes f (counts_of f) ≡ ps
  pub passed : decision_of (file_checks file_limits f) ≡ Unmet

pub made_reads : (ms cs ps : List ℕ) {room : ℕ} → Fitting ms cs ps (counts_in ms cs ps) room → Reads (made_of ms cs ps) ms cs ps
made_reads ms cs ps f =
    let d = counts_in ms cs ps in
    let w = f.whole in
    let few = w.counts-within in
    let c = made-counts ms cs ps d w in
    let o = made_opens ms cs ps d w file_limits few.marks few.corrections few.positions in
    let opens : opened_of file_limits (made_of ms cs ps) ≡ opened.File (counts_of (made_of ms cs ps)) = o ∙ ap opened.File (sym c) in
    let m = ap (mark_bytes (made_of ms cs ps)) c ∙ made-marks ms cs ps d w in
    let k = ap (correction_bytes (made_of ms cs ps)) c ∙ made-corrections ms cs ps d w in
    let p = ap (position_bytes (made_of ms cs ps)) c ∙ made-positions ms cs ps d w in
    record {
      marks = m;
      corrections = k;
      positions = p;
      passed = parts_passed file_limits (made_of ms cs ps) opens (rw (m, k, p) f.passed);
    }

module _ (ms cs ps out : List ℕ) {n : ℕ} (e : answer_of file_limits ms cs ps (length out) ≡ made n) where
  pub fits : Fitting ms cs ps (counts_in ms cs ps) (length out)
  fits = fitting ms cs ps (length out) (made_decided file_limits ms cs ps (length out) e).0

  pub reads : Reads (take n (buffer_after file_limits ms cs ps out)) ms cs ps
  reads = rw (file_stands file_limits ms cs ps out e) (made_reads ms cs ps fits)

-- ---- lists that make a file

module _ (ms cs ps out : List ℕ) {d : DayFile} (f : Fitting ms cs ps d (length out)) where
  pub makes : (answer_of file_limits ms cs ps (length out) ≡ made (length (made_of ms cs ps))) × (buffer_after file_limits ms cs ps out ≡ over (made_of ms cs ps) out)
  unfolding answer_of buffer_after
  makes = let u = fits_decided ms cs ps (length out) f in (rw u, rw u)

-- the sections of a file of bytes that passes make the file itself
pub makes_again : (f out : List ℕ) → Bytes f → decision_of (file_checks file_limits f) ≡ Unmet → length f ≤ length out
    → let d = counts_of f in
    (answer_of file_limits (mark_bytes f d) (correction_bytes f d) (position_bytes f d) (length out) ≡ made (length f))
    × (buffer_after file_limits (mark_bytes f d) (correction_bytes f d) (position_bytes f d) out ≡ over f out)
makes_again f out b p room =
    let (o, passed) = passed_parts file_limits f p in
    let again = made_again f o b in
    let fits : Fitting (mark_bytes f (counts_of f)) (correction_bytes f (counts_of f)) (position_bytes f (counts_of f)) (counts_of f) (length out) =
    record { whole = sections_whole f o; passed = passed; fits = rw again room } in
    rw again at (makes (mark_bytes f (counts_of f)) (correction_bytes f (counts_of f)) (position_bytes f (counts_of f)) out fits)

-- ---- the longest file

-- 24 + 12 times (256 + 512 + 4,096) bytes
pub longest : (ms cs ps : List ℕ) → WholeRecords ms cs ps (counts_in ms cs ps) → length (made_of ms cs ps) ≤ 58392
longest ms cs ps w =
    let few = w.counts-within in
    omega (arith, made-length ms cs ps (counts_in ms cs ps) w, few.marks, few.corrections, few.positions)

-- so that a buffer of as many bytes is never too short
module _ (ms cs ps : List ℕ) (room : ℕ) (enough : 58392 ≤ room) where
  not_17 : (d : Decision) {i : ℕ} → d ≢ Met 17 i → or_later d Unmet ≢ Met 17 i
  not_17 (Met k j) n e = n e
  not_17 Unmet n e = n e

  no_record_17 : {i : ℕ} → decision_of (record_checks (lists_of ms cs ps)) ≢ Met 17 i
  no_record_17 e =
      let ls = lists_of ms cs ps in
      not_both (number_passes (record_checks ls) (λ k. not (eqb k 17)) refl ((refuses_exactly (record_checks ls) (records_agree ls)).0 e)) refl

  by_tests : (many broken : Bool) → (too_many_records file_limits (lists_of ms cs ps)).test 0 ≡ many → (broken_list ms cs ps).test 0 ≡ broken
      → {i : ℕ} → decision_of (making_checks ms cs ps file_limits room) ≢ Met 17 i
  by_tests true broken p q e = absurd (let z : 2 ≡ 17 = number_of (two_refuses file_limits ms cs ps room p ∙ e) in omega arith)
  by_tests false true p q e = absurd (let z : 3 ≡ 17 = number_of (three_refuses file_limits ms cs ps room p q ∙ e) in omega arith)
  by_tests false false p q e =
      let ls = lists_of ms cs ps in
      let fits = longest ms cs ps (whole_lists ms cs ps (few-records ls p) q) in
      not_17 (decision_of (record_checks ls)) no_record_17 (sym (left_to_records file_limits ms cs ps room p q (omega arith)) ∙ e)

  pub room_enough : {i : ℕ} → answer_of file_limits ms cs ps room ≢ refused 17 i
  room_enough e =
      by_tests ((too_many_records file_limits (lists_of ms cs ps)).test 0) ((broken_list ms cs ps).test 0) refl refl (refused_decided file_limits ms cs ps room e)
