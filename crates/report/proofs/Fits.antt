-- The sheet of every file fits a buffer of `sheet_size` bytes.
use mathlib.Core.Path.{◌≡◌, refl, ap}
use mathlib.Core.Bool.{Bool, true, false, cond}
use mathlib.Core.List.{List, ◌++◌}
use Prim.Native.Nat.{ℕ, ◌*◌, ◌^◌, ◌≤◌, ◌<◌}
use native.Mathlib.Nat.{le_trans}
use native.Mathlib.Omega.{arith}
use lib.Dec.{ltb}
use lib.IntN.{ℤ, nat_abs}
use lib.ListN.{length, length-append}
use Rattle.text.proofs.Writing.{texts-length}
use Rattle.products.specs.declared.table.Currency.{Currency}
use Rattle.products.specs.declared.table.Currency.TheVariants.{Aud, Nzd}
use Rattle.numbers.proofs.Counting.{count_small}
use Rattle.dayfile.specs.Limits.{file_limits}
use Rattle.dayfile.specs.Records.{Lists, position_at, mark_size, position_size}
use Rattle.numbers.specs.Folds.{repeating}
use Rattle.numbers.specs.Checks.{only, ◌before◌, decision_of}
use Rattle.numbers.proofs.Checks.{Sized, sized_before, number-within, index_within}
use Rattle.dayfile.specs.Layout.{lists_in, lists_of_file, counts_of, header_size, positions_start, mark_bytes, position_bytes}
use Rattle.dayfile.specs.Opening.{header_checks, opened_of}
use Rattle.checks.specs.Marks.{mark_checks}
use Rattle.checks.specs.Corrections.{number_pair, correction_checks, resent_of}
use Rattle.checks.specs.Positions.{position_checks}
use Rattle.checks.specs.Judging.{record_checks, file_checks}
use Rattle.settlement.specs.Conditions.{room_check, settlement_checks}
use Rattle.settlement.specs.Settling.{refused, accept, refuse, plan_of, answer_by, answer_of, amount_of, change_in, total_of, share_of, totals}
use Rattle.dayfile.specs.WithinLimits.{ListsWithinLimits, LaidOut}
use Rattle.settlement.specs.SettlingSteps.{amount_cap}
use Rattle.dayfile.specs.declared.records.Correction.{Correction}
use Rattle.dayfile.specs.declared.file.DayFile.{DayFile}
use Rattle.dayfile.specs.Opening.{Opened}
use Rattle.dayfile.specs.Opening.{File, Refused}
use Rattle.checks.proofs.Passed.{passed_parts, mark_in_lem, lots_in}
use Rattle.dayfile.proofs.Parts.{lists_within}
use Rattle.settlement.proofs.Changes.{change_bound}
use Rattle.settlement.proofs.Sizes.{product_small, sum-small, keep_small}
use Rattle.settlement.proofs.Totals.{total-is}
use Rattle.dayfile.proofs.Opening.{opens, laid_out}
use Rattle.settlement.proofs.Demands.{demand_2}
use Rattle.settlement.proofs.Plans.{plan_from, plan_decided, refused_plan}
use Rattle.report.specs.Lines.{line_at}
use Rattle.numbers.specs.Bytes.{Bytes}
use Rattle.numbers.proofs.Bytes.{part_bytes, u32_small}
use Rattle.report.proofs.Lengths.{mark_read, position_read, line-length, totals-length, refusal_length}
use Rattle.report.specs.Sheet.{answer_text, positions_text, sheet_of, line_size, sheet_size}
use Rattle.numbers.specs.Order.{Decision, Met, Unmet}

-- ---- a file that is accepted

resent_small : (cs : List Correction) → resent_of cs ≤ length cs
resent_small cs = count_small (repeating (number_pair cs)) (length cs)

module _ (s : List ℕ) (b : Bytes s) (d : DayFile) (laid : LaidOut s d) (passed : decision_of (record_checks (lists_in s d)) ≡ Unmet) where
  ls : Lists
  ls = lists_in s d

  amount_in : (i : ℕ) → i < length ls.positions → nat_abs (amount_of ls.positions (change_in ls) i) ≤ amount_cap
  unfolding ls amount_of
  amount_in i h =
      product_small (position_at ls.positions i).lots (change_in ls (position_at ls.positions i).mark)
      (lots_in ls passed i h) (change_bound ls.marks _ (position_at ls.positions i).mark)

  line_in : (i : ℕ) → i < length ls.positions → length (line_at ls.marks ls.positions (amount_of ls.positions (change_in ls)) i) ≤ line_size
  unfolding ls
  line_in i h =
      let p = position_read (position_bytes s d) i (part_bytes (positions_start d) (position_size * d.positions) s b) in
      let m = mark_read (mark_bytes s d) (position_at ls.positions i).mark (part_bytes header_size (mark_size * d.marks) s b) in
      line-length _ _ _ (rw p.is (u32_small p.bytes 0 p.small)) (rw m.is (m.small 2)) (rw m.is (m.small 3)) (omega (arith, amount_in i h))

  total_in : (c : Currency) → nat_abs (total_of ls.marks ls.positions (change_in ls) c) < 10 ^ 19
  unfolding ls share_of
  total_in c =
      rw (total-is ls.marks ls.positions (change_in ls) c (λ i h. mark_in_lem ls passed i h))
      (omega (
        arith,
        sum-small (share_of ls.marks ls.positions (change_in ls) c) (length ls.positions) (λ i h. le_trans (keep_small c _ (amount_of ls.positions (change_in ls) i)) (amount_in i h)),
        (lists_within s d laid.counts-within).positions,
      ))

  accepted_length : length (positions_text (accept ls) ++ answer_text (totals ls)) ≤ sheet_size
  unfolding ls positions_text answer_text
  accepted_length =
      let total : Currency → ℤ = total_of ls.marks ls.positions (change_in ls) in
      let k : resent_of ls.corrections < 10 ^ 20 = omega (arith, resent_small ls.corrections, (lists_within s d laid.counts-within).corrections) in
      rw length-append
      (omega (
        arith,
        texts-length (line_at ls.marks ls.positions (amount_of ls.positions (change_in ls))) (length ls.positions) line_size line_in,
        (lists_within s d laid.counts-within).positions,
        totals-length (total Aud) (total Nzd) (resent_of ls.corrections) (total_in Aud) (total_in Nzd) k,
      ))

-- ---- a file that is refused

-- no check looks at more records than a file may have positions
sizes : (f : List ℕ) (places : ℕ) → ListsWithinLimits (lists_of_file f) → Sized (settlement_checks file_limits f places) file_limits.positions
sizes f places h =
    let ls = lists_of_file f in
    let m = mark_checks ls.marks in
    let c = correction_checks ls.marks ls.corrections in
    let p = position_checks ls.marks ls.positions in
    let header = header_checks file_limits f in
    sized_before (file_checks file_limits f) (only (room_check ls places))
    (sized_before header (record_checks ls) (λ x. omega arith)
    (sized_before m (c before p) (λ x. omega (arith, h.marks)) (sized_before c p (λ x. omega (arith, h.corrections)) (λ x. h.positions))))
    (λ x. omega arith)

module _ (s : List ℕ) (places : ℕ) where
  refused-answer : {k i : ℕ} → plan_of file_limits s places ≡ refuse k i → answer_of file_limits s places ≡ refused k i
  unfolding answer_of
  refused-answer e = ap answer_by e

  refused_fits : {k i : ℕ} → plan_of file_limits s places ≡ refuse k i → i ≤ file_limits.positions → length (sheet_of s places) ≤ sheet_size
  unfolding sheet_of answer_of positions_text answer_text
  refused_fits {k} {i} e h =
      let n = number-within (settlement_checks file_limits s places) 99 refl ((demand_2 file_limits s places).0 (refused-answer e)) in
      rw e (omega (arith, refusal_length k i (omega arith) (omega arith)))

  -- a file that opens
  module _ (b : Bytes s) (laid : LaidOut s (counts_of s)) where
    by_room : decision_of (record_checks (lists_of_file s)) ≡ Unmet → (t : Bool) → plan_of file_limits s places ≡ cond t (refuse 14 0) (accept (lists_of_file s)) → length (sheet_of s places) ≤ sheet_size
    unfolding sheet_of answer_of ls
    by_room v true p = refused_fits p (omega arith)
    by_room v false p = rw p (accepted_length s b (counts_of s) laid v)

    by_decision : (d : Decision) → decision_of (file_checks file_limits s) ≡ d → plan_of file_limits s places ≡ plan_from s places d → length (sheet_of s places) ≤ sheet_size
    by_decision (Met k i) e p =
        let t = (demand_2 file_limits s places).0 (refused-answer p) in
        let h = index_within (settlement_checks file_limits s places) file_limits.positions (sizes s places (lists_within s (counts_of s) laid.counts-within)) t in
        refused_fits p (omega arith)
    by_decision Unmet e p = by_room (passed_parts file_limits s e).1 (ltb places (length (lists_of_file s).positions)) p

  -- the sheet of every file fits, whatever slice it is settled into
  pub sheet_fits : Bytes s → length (sheet_of s places) ≤ sheet_size
  sheet_fits b = by_opened (opened_of file_limits s) refl
    where
      by_opened : (o : Opened) → opened_of file_limits s ≡ o → length (sheet_of s places) ≤ sheet_size
      by_opened (Refused k) e = refused_fits (refused_plan file_limits s places e) (omega arith)
      by_opened (File d) e =
          let same = (opens file_limits s e).1 in
          by_decision b (rw same (laid_out s e)) (decision_of (file_checks file_limits s)) refl (plan_decided file_limits s places)
