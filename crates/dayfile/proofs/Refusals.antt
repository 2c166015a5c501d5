-- `open_file` refuses a file exactly by the first of checks 1 to 3 whose condition holds.
use mathlib.Core.Path.{◌≡◌, refl, ap}
use mathlib.Core.Bool.{◌&&◌}
use mathlib.Core.List.{List}
use mathlib.Core.Logic.{◌↔◌}
use Prim.Native.Nat.{ℕ}
use native.Mathlib.Omega.{arith}
use lib.Dec.{leb, eqb}
use lib.ListN.{length}
use Rattle.numbers.specs.Bytes.{u32_at}
use Rattle.numbers.specs.Checks.{Refuses, Passes, decision_of}
use Rattle.numbers.proofs.Truth.{tells_as, tells_not, tells_either, tells_lt, tells_above, tells_eq, or_three, or_three_back, or_four, or_four_back}
use Rattle.numbers.proofs.Checks.{Agree, refuses_exactly, passes_exactly}
use Rattle.dayfile.specs.Limits.{Limits}
use Rattle.dayfile.specs.Layout.{header_size, counts_of, corrections_start, positions_start, length_of}
use Rattle.dayfile.specs.Opening.{Short, Counts, Layout, header_checks, opened_by, opened_of}
use Rattle.dayfile.specs.declared.file.DayFile.{DayFile}
use Rattle.dayfile.specs.Opening.{File, Refused}
use Rattle.numbers.specs.Order.{Decision, Met, Unmet}

module _ (l : Limits) (f : List ℕ) where
  pub header_agrees : Agree (header_checks l f)
  header_agrees Short i = tells_lt (length f) header_size
  header_agrees Counts i =
      let d = counts_of f in
      tells_as or_three or_three_back
      (tells_either (leb d.marks l.marks && leb d.corrections l.corrections) (leb d.positions l.positions)
      (tells_either (leb d.marks l.marks) (leb d.corrections l.corrections) (tells_above _ _) (tells_above _ _)) (tells_above _ _))
  header_agrees Layout i =
      let d = counts_of f in
      let a = eqb (u32_at f 4) header_size in
      let b = eqb (u32_at f 12) (corrections_start d) in
      let c = eqb (u32_at f 20) (positions_start d) in
      let e = eqb (length f) (length_of d) in
      tells_as or_four or_four_back
      (tells_either (a && b && c) e
      (tells_either (a && b) c (tells_either a b (tells_not a (tells_eq _ _)) (tells_not b (tells_eq _ _))) (tells_not c (tells_eq _ _))) (tells_not e (tells_eq _ _)))

  -- the index is 0: there is one file
  met_zero : {k i : ℕ} → decision_of (header_checks l f) ≡ Met k i → i ≡ 0
  met_zero p = omega (arith, ((refuses_exactly (header_checks l f) header_agrees).0 p).here.0)

  refused_by : (d : Decision) → decision_of (header_checks l f) ≡ d → {k : ℕ} → opened_by f d ≡ Refused k → decision_of (header_checks l f) ≡ Met k 0
  refused_by (Met n i) e p = let z : i ≡ 0 = met_zero e in cc
  refused_by Unmet e p = cc

  -- the answer as a decision
  pub refused_decides : {k : ℕ} → opened_of l f ≡ Refused k → decision_of (header_checks l f) ≡ Met k 0
  unfolding opened_of
  refused_decides p = refused_by (decision_of (header_checks l f)) refl p

  pub opened_decides : {d : DayFile} → opened_of l f ≡ File d → (decision_of (header_checks l f) ≡ Unmet) × (counts_of f ≡ d)
  unfolding opened_of
  opened_decides {d} p = by_decision (decision_of (header_checks l f)) refl p
    where
      by_decision : (x : Decision) → decision_of (header_checks l f) ≡ x → opened_by f x ≡ File d → (decision_of (header_checks l f) ≡ Unmet) × (counts_of f ≡ d)
      by_decision (Met n i) e q = cc
      by_decision Unmet e q = (e, cc)

  -- It is refused with k exactly where the condition of check k is the first that holds.
  pub open_refuses : {k : ℕ} → (opened_of l f ≡ Refused k) ↔ Refuses (header_checks l f) k 0
  unfolding opened_of
  open_refuses = (
    λ p. (refuses_exactly (header_checks l f) header_agrees).0 (refused_decides p),
    λ r. ap (opened_by f) ((refuses_exactly (header_checks l f) header_agrees).1 r),
  )

  -- It is opened, with the counts of its header, exactly where none holds.
  pub open_passes : (opened_of l f ≡ File (counts_of f)) ↔ Passes (header_checks l f)
  unfolding opened_of
  open_passes = (
    λ p. (passes_exactly (header_checks l f) header_agrees).0 (opened_decides p).0,
    λ h. ap (opened_by f) ((passes_exactly (header_checks l f) header_agrees).1 h),
  )
