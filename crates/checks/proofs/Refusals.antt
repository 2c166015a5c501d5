-- What the checks answer is what their conditions in words say, in both directions and with the index: a file or a list is refused with k at i
-- exactly where the condition of check k is the first that holds, at i first, and passes exactly where none holds.
use Rattle.std.proofs.Common.{◌≡◌, ℕ, ◌<◌, ◌≤◌, false, ◌⊎◌, ◌↔◌, List, length, sym, refl, ap, ◌∙◌, arith, le-ltb, lt-ltb}
use Rattle.numbers.specs.Order.{or_later, Decision, Met, Unmet}
use Rattle.numbers.specs.Bytes.{u32_at}
use Rattle.numbers.specs.Checks.{◌before◌, Refuses, Passes, decision_of}
use Rattle.numbers.proofs.Truth.{told}
use Rattle.numbers.proofs.Checks.{refuses_exactly, passes_exactly, decision-before, one_decides, one_passes}
use Rattle.dayfile.specs.Limits.{Limits}
use Rattle.dayfile.specs.Records.{Lists}
use Rattle.dayfile.specs.Layout.{counts_of, lists_of_file}
use Rattle.dayfile.specs.Opening.{header_checks, opened_of}
use Rattle.dayfile.specs.Opening.{File}
use Rattle.dayfile.proofs.Opening.{opens}
use Rattle.dayfile.proofs.Parts.{header-counts}
use Rattle.dayfile.proofs.Refusals.{opened_decides}
use Rattle.dayfile.specs.declared.records.Mark.{Mark}
use Rattle.dayfile.specs.declared.records.Correction.{Correction}
use Rattle.dayfile.specs.declared.records.Position.{Position}
use Rattle.dayfile.specs.declared.file.DayFile.{DayFile}
use Rattle.checks.specs.Marks.{MarkCheck, mark_check, mark_checks, too_many_marks, mark_list_checks}
use Rattle.checks.specs.Corrections.{CorrectionCheck, correction_check, correction_checks, correction_list_checks, corrections_judged, resent_of}
use Rattle.checks.specs.Positions.{PositionCheck, position_check, position_checks, too_many_positions, position_list_checks}
use Rattle.checks.specs.Judging.{record_checks, too_many_records, list_checks, file_checks, judged_by, judged_of}
use Rattle.checks.specs.Judging.{Passed, Refused}
use Rattle.checks.proofs.Agreement.{marks_agree, corrections_agree, positions_agree, mark_lists_agree, correction_lists_agree, position_lists_agree, file_agrees, many, many_records, lists_agree}
use Rattle.checks.proofs.Deciding.{too_many_corrections_lem, not_many_corrections}
use Rattle.checks.proofs.Passed.{passed_parts, mark_passes, correction_passes, position_passes}

-- ---- a file, by `judge`

refused_by : (d : DayFile) (r : ℕ) (x : Decision) {k i : ℕ} → judged_by d r x ≡ Refused k i → x ≡ Met k i
refused_by d r (Met n j) p = cc
refused_by d r Unmet p = absurd (let z : ◌≡◌ {A = ℕ} 0 1 = cc in omega arith)

passed_by : (d : DayFile) (r : ℕ) (x : Decision) {c : DayFile} {n : ℕ} → judged_by d r x ≡ Passed c n → x ≡ Unmet
passed_by d r (Met n j) p = absurd (let z : ◌≡◌ {A = ℕ} 0 1 = cc in omega arith)
passed_by d r Unmet p = refl

module _ (l : Limits) (f : List ℕ) where
  pub judge_refuses : {k i : ℕ} → (judged_of l f ≡ Refused k i) ↔ Refuses (file_checks l f) k i
  unfolding judged_of
  judge_refuses = (
    λ p. (refuses_exactly (file_checks l f) (file_agrees l f)).0 (refused_by _ _ (decision_of (file_checks l f)) p),
    λ h. ap (judged_by (counts_of f) (resent_of (lists_of_file f).corrections)) ((refuses_exactly (file_checks l f) (file_agrees l f)).1 h),
  )

  -- passed: with the header's counts and the resent count
  pub judge_passes : (judged_of l f ≡ Passed (counts_of f) (resent_of (lists_of_file f).corrections)) ↔ Passes (file_checks l f)
  unfolding judged_of
  judge_passes = (
    λ p. (passes_exactly (file_checks l f) (file_agrees l f)).0 (passed_by _ _ (decision_of (file_checks l f)) p),
    λ h. ap (judged_by (counts_of f) (resent_of (lists_of_file f).corrections)) ((passes_exactly (file_checks l f) (file_agrees l f)).1 h),
  )

  -- what is decided of a file that passes
  pub judged_passes : {c : DayFile} {n : ℕ} → judged_of l f ≡ Passed c n → decision_of (file_checks l f) ≡ Unmet
  unfolding judged_of
  judged_passes e = passed_by _ _ (decision_of (file_checks l f)) e

  -- Nothing is wrong with any record of a file that passes, as many as its header counts.
  module _ {c : DayFile} {n : ℕ} (e : judged_of l f ≡ Passed c n) where
    passed : (opened_of l f ≡ File (counts_of f)) × (decision_of (record_checks (lists_of_file f)) ≡ Unmet)
    passed = passed_parts l f (judged_passes e)

    counts : (length (lists_of_file f).marks ≡ u32_at f 0) × (length (lists_of_file f).corrections ≡ u32_at f 8) × (length (lists_of_file f).positions ≡ u32_at f 16)
    counts = header-counts f (opens l f passed.0).0.ends_at

    pub marks_right : (i : ℕ) → i < u32_at f 0 → (k : MarkCheck) → ¬ ((mark_check (lists_of_file f).marks k).Condition i)
    marks_right i h k = (marks_agree (lists_of_file f).marks k i).no (mark_passes (lists_of_file f) passed.1 i k (rw counts.0 h))

    pub corrections_right : (i : ℕ) → i < u32_at f 8 → (k : CorrectionCheck) → ¬ ((correction_check (lists_of_file f).marks (lists_of_file f).corrections k).Condition i)
    corrections_right i h k =
        (corrections_agree (lists_of_file f).marks (lists_of_file f).corrections k i).no (correction_passes (lists_of_file f) passed.1 i k (rw counts.1 h))

    pub positions_right : (i : ℕ) → i < u32_at f 16 → (k : PositionCheck) → ¬ ((position_check (lists_of_file f).marks (lists_of_file f).positions k).Condition i)
    positions_right i h k =
        (positions_agree (lists_of_file f).marks (lists_of_file f).positions k i).no (position_passes (lists_of_file f) passed.1 i k (rw counts.2 h))

-- ---- lists that stand in no file, by `check_marks`, `check_corrections` and `check_positions`

module _ (l : Limits) (ms : List Mark) where
  pub marks-refused : {k i : ℕ} → (decision_of (mark_list_checks l ms) ≡ Met k i) ↔ Refuses (mark_list_checks l ms) k i
  marks-refused = refuses_exactly (mark_list_checks l ms) (mark_lists_agree l ms)

  pub marks-passed : (decision_of (mark_list_checks l ms) ≡ Unmet) ↔ Passes (mark_list_checks l ms)
  marks-passed = passes_exactly (mark_list_checks l ms) (mark_lists_agree l ms)

  -- a list within the limit goes by checks 4 to 8
  marks-within : length ms ≤ l.marks → decision_of (mark_list_checks l ms) ≡ decision_of (mark_checks ms)
  marks-within h = sym (one_passes (too_many_marks l ms) (mark_checks ms) (le-ltb l.marks (length ms) h) refl)

  -- a longer one is refused with 2, whatever stands in it
  pub marks-above : l.marks < length ms → decision_of (mark_list_checks l ms) ≡ Met 2 0
  marks-above h = sym (one_decides (too_many_marks l ms) (mark_checks ms) (lt-ltb l.marks (length ms) h))

module _ (l : Limits) (ms : List Mark) (cs : List Correction) where
  pub corrections-refused : {k i : ℕ} → ((corrections_judged l ms cs).decision ≡ Met k i) ↔ Refuses (correction_list_checks l ms cs) k i
  unfolding corrections_judged
  corrections-refused = refuses_exactly (correction_list_checks l ms cs) (correction_lists_agree l ms cs)

  pub corrections-passed : ((corrections_judged l ms cs).decision ≡ Unmet) ↔ Passes (correction_list_checks l ms cs)
  unfolding corrections_judged
  corrections-passed = passes_exactly (correction_list_checks l ms cs) (correction_lists_agree l ms cs)

  corrections-within : length ms ≤ l.marks → length cs ≤ l.corrections → record { decision = decision_of (correction_checks ms cs); resent = resent_of cs } ≡ corrections_judged l ms cs
  corrections-within h k = not_many_corrections l ms cs (rw (le-ltb l.marks (length ms) h, le-ltb l.corrections (length cs) k)) refl refl

  pub corrections-above : (l.marks < length ms) ⊎ (l.corrections < length cs) → corrections_judged l ms cs ≡ record { decision = Met 2 0; resent = 0 }
  corrections-above h = sym (too_many_corrections_lem l ms cs (told _ (many l.marks (length ms) l.corrections (length cs)) h))

module _ (l : Limits) (ms : List Mark) (ps : List Position) where
  pub positions-refused : {k i : ℕ} → (decision_of (position_list_checks l ms ps) ≡ Met k i) ↔ Refuses (position_list_checks l ms ps) k i
  positions-refused = refuses_exactly (position_list_checks l ms ps) (position_lists_agree l ms ps)

  pub positions-passed : (decision_of (position_list_checks l ms ps) ≡ Unmet) ↔ Passes (position_list_checks l ms ps)
  positions-passed = passes_exactly (position_list_checks l ms ps) (position_lists_agree l ms ps)

  positions-within : length ms ≤ l.marks → length ps ≤ l.positions → decision_of (position_list_checks l ms ps) ≡ decision_of (position_checks ms ps)
  positions-within h k =
      sym (one_passes (too_many_positions l ms ps) (position_checks ms ps) (rw (le-ltb l.marks (length ms) h, le-ltb l.positions (length ps) k)) refl)

  pub positions-above : (l.marks < length ms) ⊎ (l.positions < length ps) → decision_of (position_list_checks l ms ps) ≡ Met 2 0
  positions-above h = sym (one_decides (too_many_positions l ms ps) (position_checks ms ps) (told _ (many l.marks (length ms) l.positions (length ps)) h))

-- ---- all three lists, by `check_records`

module _ (l : Limits) (ls : Lists) where
  pub records-refused : {k i : ℕ} → (decision_of (list_checks l ls) ≡ Met k i) ↔ Refuses (list_checks l ls) k i
  records-refused = refuses_exactly (list_checks l ls) (lists_agree l ls)

  pub records-passed : (decision_of (list_checks l ls) ≡ Unmet) ↔ Passes (list_checks l ls)
  records-passed = passes_exactly (list_checks l ls) (lists_agree l ls)

  -- lists within the limits go by checks 4 to 13 and 16
  pub records-within : (too_many_records l ls).test 0 ≡ false → decision_of (list_checks l ls) ≡ decision_of (record_checks ls)
  records-within few = sym (one_passes (too_many_records l ls) (record_checks ls) few refl)

  -- others are refused with 2, whatever stands in them
  pub records-above : (l.marks < length ls.marks) ⊎ (l.corrections < length ls.corrections) ⊎ (l.positions < length ls.positions)
      → decision_of (list_checks l ls) ≡ Met 2 0
  records-above h = sym (one_decides (too_many_records l ls) (record_checks ls) (told _ (many_records l ls) h))

-- Of the lists of a file that opens, the three calls together say what `judge` says of the file.
pub judged_by_lists : (l : Limits) (f : List ℕ) → opened_of l f ≡ File (counts_of f)
    → let ls = lists_of_file f in
    let cs = corrections_judged l ls.marks ls.corrections in
    judged_of l f ≡ judged_by (counts_of f) cs.resent (or_later (decision_of (mark_list_checks l ls.marks)) (or_later cs.decision (decision_of (position_list_checks l ls.marks ls.positions))))
unfolding judged_of
judged_by_lists l f o =
    let ls = lists_of_file f in
    let m = mark_checks ls.marks in
    let c = correction_checks ls.marks ls.corrections in
    let p = position_checks ls.marks ls.positions in
    let h = (opens l f o).0 in
    let n = header-counts f h.ends_at in
    let few-marks : length ls.marks ≤ l.marks = rw n.0 h.marks_fit in
    let few-corrections : length ls.corrections ≤ l.corrections = rw n.1 h.corrections_fit in
    let few-positions : length ls.positions ≤ l.positions = rw n.2 h.positions_fit in
    let decided : decision_of (file_checks l f) ≡ or_later (decision_of m) (or_later (decision_of c) (decision_of p)) =
    decision-before (header_checks l f) (record_checks ls) ∙ rw (opened_decides l f o).0 (decision-before m (c before p) ∙ ap (or_later (decision_of m)) (decision-before c p)) in
    ap (judged_by (counts_of f) (resent_of ls.corrections)) decided
    ∙ rw (← corrections-within l ls.marks ls.corrections few-marks few-corrections, marks-within l ls.marks few-marks, positions-within l ls.marks ls.positions few-marks few-positions)
