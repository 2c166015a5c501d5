-- What holds of three lists that passed the checks over their records, or the first of them.
use Rattle.std.proofs.Common.{◌≡◌, ℕ, ◌-◌, ◌<◌, ◌≤◌, false, ◌||◌, ltb, List, length, ℤ, pos, negsuc, neg_ℤ, nat_abs, sym, ◌∙◌, arith, ltb-false, leb-false}
use lib.Signed.{lt_z}
use Rattle.numbers.specs.Integers.{is_zero}
use Rattle.numbers.specs.Checks.{◌before◌, decision_of}
use Rattle.numbers.proofs.Searches.{or_none}
use Rattle.numbers.proofs.Truth.{or_left, or_right}
use Rattle.numbers.proofs.Checks.{both_unmet, decision-before, passed-at}
use Rattle.dayfile.specs.Limits.{Limits, file_limits, lots_limit}
use Rattle.dayfile.specs.Layout.{counts_of, lists_of_file}
use Rattle.dayfile.specs.Opening.{header_checks, opened_of}
use Rattle.dayfile.specs.Opening.{File}
use Rattle.dayfile.proofs.Refusals.{opened_decides}
use Rattle.dayfile.specs.Records.{Lists, position_at}
use Rattle.dayfile.specs.WithinLimits.{ListsWithinLimits}
use Rattle.checks.specs.Marks.{MarkCheck, mark_check, mark_checks}
use Rattle.checks.specs.Corrections.{CorrectionCheck, correction_check, correction_checks}
use Rattle.checks.specs.Positions.{bad_lots, PositionCheck, PositionMark, PositionLots, position_check, position_checks}
use Rattle.checks.specs.Judging.{record_checks, too_many_records, file_checks}
use Rattle.checks.proofs.Agreement.{of_marks, of_corrections, of_positions}
use Rattle.numbers.specs.Order.{Unmet}

-- ---- how many records

-- lists of which none has more records than a file may have are within the limits
pub few-records : (ls : Lists) → (too_many_records file_limits ls).test 0 ≡ false → ListsWithinLimits ls
few-records ls p =
    let a = ltb file_limits.marks (length ls.marks) in
    let b = ltb file_limits.corrections (length ls.corrections) in
    let few = or_none (a || b) _ p in
    let (m, c) = or_none a b few.0 in
    record { marks = ltb-false _ _ m; corrections = ltb-false _ _ c; positions = ltb-false _ _ few.1 }

-- ---- the three parts

module _ (ls : Lists) where
  pub parts : decision_of (record_checks ls) ≡ Unmet
      → (decision_of (mark_checks ls.marks) ≡ Unmet) × (decision_of (correction_checks ls.marks ls.corrections) ≡ Unmet)
      × (decision_of (position_checks ls.marks ls.positions) ≡ Unmet)
  parts p =
      let m = mark_checks ls.marks in
      let c = correction_checks ls.marks ls.corrections in
      let q = position_checks ls.marks ls.positions in
      let a = both_unmet (decision_of m) (decision_of (c before q)) (sym (decision-before m (c before q)) ∙ p) in
      let b = both_unmet (decision_of c) (decision_of q) (sym (decision-before c q) ∙ a.1) in
      (a.0, b.0, b.1)

  pub whole : decision_of (mark_checks ls.marks) ≡ Unmet → decision_of (correction_checks ls.marks ls.corrections) ≡ Unmet
      → decision_of (position_checks ls.marks ls.positions) ≡ Unmet → decision_of (record_checks ls) ≡ Unmet
  whole a b c =
      let m = mark_checks ls.marks in
      let d = correction_checks ls.marks ls.corrections in
      let q = position_checks ls.marks ls.positions in
      decision-before m (d before q) ∙ rw a (decision-before d q ∙ rw b c)

-- ---- a file

module _ (l : Limits) (f : List ℕ) where
  pub passed_parts : decision_of (file_checks l f) ≡ Unmet → (opened_of l f ≡ File (counts_of f)) × (decision_of (record_checks (lists_of_file f)) ≡ Unmet)
  unfolding opened_of
  passed_parts p =
      let b = both_unmet (decision_of (header_checks l f)) (decision_of (record_checks (lists_of_file f))) (sym (decision-before (header_checks l f) (record_checks (lists_of_file f))) ∙ p) in
      (rw b.0, b.1)

  pub parts_passed : opened_of l f ≡ File (counts_of f) → decision_of (record_checks (lists_of_file f)) ≡ Unmet → decision_of (file_checks l f) ≡ Unmet
  parts_passed o p = decision-before (header_checks l f) (record_checks (lists_of_file f)) ∙ rw (opened_decides l f o).0 p

-- ---- no record fails a check

lots_bound : (z : ℤ) → bad_lots z ≡ false → nat_abs z ≤ lots_limit
lots_bound (pos n) e = ltb-false lots_limit n (or_right (is_zero (pos n) || lt_z (pos n) (neg_ℤ (pos lots_limit))) _ e)
lots_bound (negsuc n) e =
    omega (arith, ltb-false (lots_limit - 1) n (or_right (is_zero (negsuc n)) _ (or_left (is_zero (negsuc n) || lt_z (negsuc n) (neg_ℤ (pos lots_limit))) _ e)))

module _ (ls : Lists) (passed : decision_of (record_checks ls) ≡ Unmet) (i : ℕ) where
  pub mark_passes : (c : MarkCheck) → i < length ls.marks → (mark_check ls.marks c).test i ≡ false
  mark_passes c h = passed-at (mark_checks ls.marks) (parts ls passed).0 (of_marks ls.marks c) h

  pub correction_passes : (c : CorrectionCheck) → i < length ls.corrections → (correction_check ls.marks ls.corrections c).test i ≡ false
  correction_passes c h = passed-at (correction_checks ls.marks ls.corrections) (parts ls passed).1 (of_corrections ls.marks ls.corrections c) h

  pub position_passes : (c : PositionCheck) → i < length ls.positions → (position_check ls.marks ls.positions c).test i ≡ false
  position_passes c h = passed-at (position_checks ls.marks ls.positions) (parts ls passed).2 (of_positions ls.marks ls.positions c) h

  pub mark_in_lem : i < length ls.positions → (position_at ls.positions i).mark < length ls.marks
  mark_in_lem h = leb-false _ _ (position_passes PositionMark h)

  pub lots_in : i < length ls.positions → nat_abs (position_at ls.positions i).lots ≤ lots_limit
  lots_in h = lots_bound (position_at ls.positions i).lots (position_passes PositionLots h)
