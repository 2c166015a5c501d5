-- What the maker's checks decide, one after the other, and what holds of lists that pass them.
use Rattle.std.proofs.Common.{Some, None}
use mathlib.Core.Path.{◌≡◌, refl, sym, ap, ◌∙◌}
use mathlib.Core.Bool.{Bool, true, false, cond, not, ◌||◌}
use mathlib.Core.List.{List}
use Prim.Native.Nat.{ℕ, ◌%◌, ◌≤◌}
use native.Mathlib.Omega.{arith}
use lib.Dec.{ltb, eqb}
use lib.ListN.{length}
use borrow.Author.Tests.{eqb-true, eq-eqb, ltb-false, le-ltb, not-false}
use Rattle.numbers.specs.Order.{pick, or_later, Decision, Met, Unmet}
use Rattle.numbers.specs.Checks.{Checks, only, ◌before◌, decision_of}
use Rattle.numbers.proofs.Searches.{or_none}
use Rattle.numbers.proofs.Sections.{size_is}
use Rattle.numbers.proofs.Checks.{decision-before, decision-only, one_decides, one_passes, one_passed, both_unmet}
use Rattle.dayfile.specs.Limits.{Limits, file_limits}
use Rattle.dayfile.specs.Records.{mark_size, correction_size, position_size, mark_of, correction_of, position_of, lists_of}
use Rattle.dayfile.specs.Layout.{length_of}
use Rattle.dayfile.specs.Making.{counts_in, made_of}
use Rattle.dayfile.specs.WithinLimits.{CountsWithinLimits, ListsWithinLimits, WholeRecords}
use Rattle.dayfile.specs.declared.file.DayFile.{DayFile}
use Rattle.dayfile.proofs.Made.{made-length}
use Rattle.checks.specs.Judging.{record_checks, too_many_records, list_checks}
use Rattle.checks.proofs.Passed.{few-records}
use Rattle.checks.proofs.Refusals.{records-within}
use Rattle.text.specs.Writing.{over}
use Rattle.making.specs.Conditions.{broken_list, room_check, making_checks}
use Rattle.making.specs.Making.{made, refused, answer_of, buffer_after}
use Rattle.making.specs.MakingSteps.{Plan, File, Refused, room_plan, plan_by, plan_of}

pub number_of : {k n i j : ℕ} → Met k i ≡ Met n j → k ≡ n
number_of e = cc

-- ---- whole records

module _ (ms cs ps : List ℕ) where
  whole_by : (w n : ℕ) → not (eqb (n % w) 0) ≡ false → n % w ≡ 0
  whole_by w n p = eqb-true (n % w) 0 (not-false (eqb (n % w) 0) p)

  -- lists within the limits, none of them broken
  pub whole_lists : ListsWithinLimits (lists_of ms cs ps) → (broken_list ms cs ps).test 0 ≡ false → WholeRecords ms cs ps (counts_in ms cs ps)
  unfolding counts_in
  whole_lists few p =
      let a = not (eqb (length ms % mark_size) 0) in
      let b = not (eqb (length cs % correction_size) 0) in
      let both = or_none (a || b) _ p in
      let (m, c) = or_none a b both.0 in
      let hm : length ms % mark_size ≡ 0 = whole_by mark_size (length ms) m in
      let hc : length cs % correction_size ≡ 0 = whole_by correction_size (length cs) c in
      let hp : length ps % position_size ≡ 0 = whole_by position_size (length ps) both.1 in
      record {
        counts-within = record { marks = few.marks; corrections = few.corrections; positions = few.positions };
        counts = refl;
        marks = rw (size_is mark_of mark_size ms) (omega arith);
        corrections = rw (size_is correction_of correction_size cs) (omega arith);
        positions = rw (size_is position_of position_size ps) (omega arith);
      }

  -- and back
  pub not_broken : {d : DayFile} → WholeRecords ms cs ps d → (broken_list ms cs ps).test 0 ≡ false
  not_broken {d} w =
      let a : length ms % mark_size ≡ 0 = omega (arith, w.marks) in
      let b : length cs % correction_size ≡ 0 = omega (arith, w.corrections) in
      let c : length ps % position_size ≡ 0 = omega (arith, w.positions) in
      simp (eq-eqb _ _ a, eq-eqb _ _ b, eq-eqb _ _ c)

-- ---- check by check

module _ (l : Limits) (ms cs ps : List ℕ) (room : ℕ) where
  abbrev after_records : Checks
  after_records = record_checks (lists_of ms cs ps) before only (room_check ms cs ps room)

  abbrev after_counts : Checks
  after_counts = only (broken_list ms cs ps) before after_records

  pub two_refuses : (too_many_records l (lists_of ms cs ps)).test 0 ≡ true → Met 2 0 ≡ decision_of (making_checks ms cs ps l room)
  two_refuses p = one_decides (too_many_records l (lists_of ms cs ps)) after_counts p

  pub planned_2 : (too_many_records l (lists_of ms cs ps)).test 0 ≡ true → Refused 2 0 ≡ plan_of l ms cs ps room
  unfolding plan_of
  planned_2 p = ap (plan_by (counts_in ms cs ps)) (two_refuses p)

  module _ (few : (too_many_records l (lists_of ms cs ps)).test 0 ≡ false) where
    pub three_refuses : (broken_list ms cs ps).test 0 ≡ true → Met 3 0 ≡ decision_of (making_checks ms cs ps l room)
    three_refuses q = one_passes (too_many_records l (lists_of ms cs ps)) after_counts few (one_decides (broken_list ms cs ps) after_records q)

    pub planned_3 : (broken_list ms cs ps).test 0 ≡ true → Refused 3 0 ≡ plan_of l ms cs ps room
    unfolding plan_of
    planned_3 q = ap (plan_by (counts_in ms cs ps)) (three_refuses q)

    module _ (whole : (broken_list ms cs ps).test 0 ≡ false) where
      decided_after : decision_of after_records ≡ decision_of (making_checks ms cs ps l room)
      decided_after = one_passes (too_many_records l (lists_of ms cs ps)) after_counts few (one_passes (broken_list ms cs ps) after_records whole refl)

      pub planned_records : {k i : ℕ} → Met k i ≡ decision_of (list_checks l (lists_of ms cs ps)) → Refused k i ≡ plan_of l ms cs ps room
      unfolding plan_of
      planned_records {k} {i} p =
          let r : decision_of (record_checks (lists_of ms cs ps)) ≡ Met k i = sym (p ∙ records-within l (lists_of ms cs ps) few) in
          let first : decision_of after_records ≡ Met k i = decision-before (record_checks (lists_of ms cs ps)) (only (room_check ms cs ps room)) ∙ rw r in
          ap (plan_by (counts_in ms cs ps)) (sym first ∙ decided_after)

      -- with room, the records decide
      pub left_to_records : length (made_of ms cs ps) ≤ room
          → decision_of (making_checks ms cs ps l room) ≡ or_later (decision_of (record_checks (lists_of ms cs ps))) Unmet
      left_to_records fits =
          sym decided_after ∙ decision-before (record_checks (lists_of ms cs ps)) (only (room_check ms cs ps room))
          ∙ rw (decision-only (room_check ms cs ps room), le-ltb _ _ fits)

      -- 17 is all that is left
      pub decided_room : decision_of (record_checks (lists_of ms cs ps)) ≡ Unmet
          → decision_of (making_checks ms cs ps l room) ≡ pick (cond (ltb room (length (made_of ms cs ps))) (Some 0) None) 17 Unmet
      decided_room r =
          sym decided_after ∙ decision-before (record_checks (lists_of ms cs ps)) (only (room_check ms cs ps room)) ∙ rw r (decision-only (room_check ms cs ps room))

by_room : (d : DayFile) (short : Bool) → cond short (Refused 17 0) (File d) ≡ plan_by d (pick (cond short (Some 0) None) 17 Unmet)
by_room d true = refl
by_room d false = refl

pub planned_room : (ms cs ps : List ℕ) (room : ℕ) → (too_many_records file_limits (lists_of ms cs ps)).test 0 ≡ false → (broken_list ms cs ps).test 0 ≡ false
    → Unmet ≡ decision_of (list_checks file_limits (lists_of ms cs ps)) → {d : DayFile} {r : Plan} → d ≡ counts_in ms cs ps → r ≡ room_plan d room
    → r ≡ plan_of file_limits ms cs ps room
unfolding plan_of
planned_room ms cs ps room few whole p {d} c r =
    let u : decision_of (record_checks (lists_of ms cs ps)) ≡ Unmet = sym (p ∙ records-within file_limits (lists_of ms cs ps) few) in
    let n = made-length ms cs ps (counts_in ms cs ps) (whole_lists ms cs ps (few-records (lists_of ms cs ps) few) whole) in
    r ∙ by_room d (ltb room (length_of d)) ∙ rw (c, decided_room file_limits ms cs ps room few whole u, n)

-- ---- lists that pass

-- whole records that pass the checks over them, and whose file has room
pub record Fitting (ms cs ps : List ℕ) (d : DayFile) (room : ℕ) : Type 0 where
  pub whole : WholeRecords ms cs ps d
  pub passed : decision_of (record_checks (lists_of ms cs ps)) ≡ Unmet
  pub fits : length (made_of ms cs ps) ≤ room

room_left : (short : Bool) → pick (cond short (Some 0) None) 17 Unmet ≡ Unmet → short ≡ false
room_left false e = refl
room_left true e = cc

-- no check refuses
pub none_refuses : (l : Limits) (ms cs ps : List ℕ) (room : ℕ) → decision_of (making_checks ms cs ps l room) ≡ Unmet
    → ((too_many_records l (lists_of ms cs ps)).test 0 ≡ false) × ((broken_list ms cs ps).test 0 ≡ false) × (decision_of (record_checks (lists_of ms cs ps)) ≡ Unmet)
    × (length (made_of ms cs ps) ≤ room)
none_refuses l ms cs ps room p =
    let ls = lists_of ms cs ps in
    let of_room = only (room_check ms cs ps room) in
    let (few, after-few) = one_passed (too_many_records l ls) (after_counts l ms cs ps room) p in
    let (whole, after-whole) = one_passed (broken_list ms cs ps) (after_records l ms cs ps room) after-few in
    let (passed, left) = both_unmet (decision_of (record_checks ls)) (decision_of of_room) (sym (decision-before (record_checks ls) of_room) ∙ after-whole) in
    (few, whole, passed, ltb-false _ _ (room_left (ltb room (length (made_of ms cs ps))) (sym (decision-only (room_check ms cs ps room)) ∙ left)))

module _ (ms cs ps : List ℕ) (room : ℕ) where
  pub fitting : decision_of (making_checks ms cs ps file_limits room) ≡ Unmet → Fitting ms cs ps (counts_in ms cs ps) room
  fitting p =
      let (few, whole, passed, fits) = none_refuses file_limits ms cs ps room p in
      record { whole = whole_lists ms cs ps (few-records (lists_of ms cs ps) few) whole; passed = passed; fits = fits }

  few-counted : {d : DayFile} → d ≡ counts_in ms cs ps → CountsWithinLimits d → (too_many_records file_limits (lists_of ms cs ps)).test 0 ≡ false
  unfolding counts_in
  few-counted c few =
      let m = ap (λ (d : DayFile). d.marks) c in
      let n = ap (λ (d : DayFile). d.corrections) c in
      let k = ap (λ (d : DayFile). d.positions) c in
      simp (le-ltb _ _ (rw m at few.marks), le-ltb _ _ (rw n at few.corrections), le-ltb _ _ (rw k at few.positions))

  -- and back
  pub fits_decided : {d : DayFile} → Fitting ms cs ps d room → decision_of (making_checks ms cs ps file_limits room) ≡ Unmet
  fits_decided f =
      let w = f.whole in
      decided_room file_limits ms cs ps room (few-counted w.counts w.counts-within) (not_broken ms cs ps w) f.passed ∙ rw (le-ltb _ _ f.fits)

  file_by : (d : DayFile) (x : Decision) {e : DayFile} → plan_by d x ≡ File e → (x ≡ Unmet) × (d ≡ e)
  file_by d (Met k i) p = cc
  file_by d Unmet p = (refl, cc)

  refused_by : (d : DayFile) (x : Decision) {k i : ℕ} → plan_by d x ≡ Refused k i → x ≡ Met k i
  refused_by d (Met n j) p = cc
  refused_by d Unmet p = cc

  planned_file : {d : DayFile} → plan_of file_limits ms cs ps room ≡ File d → (decision_of (making_checks ms cs ps file_limits room) ≡ Unmet) × (counts_in ms cs ps ≡ d)
  unfolding plan_of
  planned_file p = file_by (counts_in ms cs ps) (decision_of (making_checks ms cs ps file_limits room)) p

  planned_refused : {k i : ℕ} → plan_of file_limits ms cs ps room ≡ Refused k i → decision_of (making_checks ms cs ps file_limits room) ≡ Met k i
  unfolding plan_of
  planned_refused p = refused_by (counts_in ms cs ps) (decision_of (making_checks ms cs ps file_limits room)) p

-- ---- the plan carried out

module _ (ms cs ps out : List ℕ) where
  pub whole_here : {d : DayFile} → File d ≡ plan_of file_limits ms cs ps (length out) → WholeRecords ms cs ps d × (length_of d ≤ length out)
  whole_here q =
      let (u, c) = planned_file ms cs ps (length out) (sym q) in
      let f = fitting ms cs ps (length out) u in
      rw (← c) (f.whole, rw (← made-length ms cs ps (counts_in ms cs ps) f.whole) f.fits)

  pub answer-refused : {k i : ℕ} → Refused k i ≡ plan_of file_limits ms cs ps (length out)
      → (refused k i ≡ answer_of file_limits ms cs ps (length out)) × (out ≡ buffer_after file_limits ms cs ps out)
  unfolding answer_of buffer_after
  answer-refused q = let m = planned_refused ms cs ps (length out) (sym q) in (rw m, rw m)

  pub answer-made : {d : DayFile} {n : ℕ} {after : List ℕ} → File d ≡ plan_of file_limits ms cs ps (length out) → n ≡ length_of d → after ≡ over (made_of ms cs ps) out
      → (made n ≡ answer_of file_limits ms cs ps (length out)) × (after ≡ buffer_after file_limits ms cs ps out)
  unfolding answer_of buffer_after
  answer-made {d} q h w =
      let (u, c) = planned_file ms cs ps (length out) (sym q) in
      let n = made-length ms cs ps d (whole_here q).0 in
      (rw (u, n, h), rw u w)
