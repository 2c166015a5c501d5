-- A file is turned away exactly by the first check whose condition holds, and accepted where none holds.
use Rattle.std.proofs.Common.{Some, None}
use mathlib.Core.Path.{◌≡◌, refl, sym, ap, ◌∙◌}
use mathlib.Core.Bool.{Bool, true, false, cond}
use mathlib.Core.List.{List}
use mathlib.Core.Logic.{◌↔◌}
use Prim.Native.Nat.{ℕ}
use native.Mathlib.Omega.{arith}
use lib.Dec.{ltb}
use lib.IntN.{ℤ}
use lib.ListN.{length}
use Rattle.numbers.specs.Order.{pick, or_later, Decision, Met, Unmet}
use Rattle.numbers.specs.Checks.{only, decision_of}
use Rattle.numbers.proofs.Truth.{tells_lt}
use Rattle.numbers.proofs.Checks.{Agree, agree_before, agree_only, decision-before, decision-only, refuses_exactly, passes_exactly}
use Rattle.dayfile.specs.Limits.{Limits}
use Rattle.dayfile.specs.Layout.{lists_of_file}
use Rattle.checks.specs.Judging.{file_checks}
use Rattle.checks.proofs.Agreement.{file_agrees}
use Rattle.settlement.specs.Conditions.{room_check, settlement_checks, TurnedAway, NotTurnedAway}
use Rattle.settlement.specs.Settling.{settled, refused, totals, Plan, accept, refuse, answer_by, answer_of}
use Rattle.settlement.proofs.Plans.{plan_from, plan_decided}

module _ (l : Limits) (f : List ℕ) (places : ℕ) where
  agrees : Agree (settlement_checks l f places)
  agrees =
      agree_before (file_checks l f) (only (room_check (lists_of_file f) places)) (file_agrees l f)
      (agree_only (room_check (lists_of_file f) places) (λ i. tells_lt places (length (lists_of_file f).positions)))

  -- ---- the plan by what all checks decide

  abbrev plan_by : Decision → Plan
  plan_by (Met k i) = refuse k i
  plan_by Unmet = accept (lists_of_file f)

  by_room : (d : Decision) (t : Bool) → ltb places (length (lists_of_file f).positions) ≡ t → plan_from f places d ≡ plan_by (or_later d (pick (cond t (Some 0) None) 14 Unmet))
  by_room (Met k i) t e = refl
  by_room Unmet true e = rw e
  by_room Unmet false e = rw e

  answer_decided : answer_of l f places ≡ answer_by (plan_by (decision_of (settlement_checks l f places)))
  unfolding answer_of
  answer_decided =
      let room = room_check (lists_of_file f) places in
      ap answer_by (plan_decided l f places ∙ by_room (decision_of (file_checks l f)) (ltb places (length (lists_of_file f).positions)) refl
      ∙ ap plan_by (ap (or_later (decision_of (file_checks l f))) (sym (decision-only room)) ∙ sym (decision-before (file_checks l f) (only room))))

  -- ---- the answer to a file

  refused_by : (d : Decision) {k i : ℕ} → answer_by (plan_by d) ≡ refused k i → d ≡ Met k i
  refused_by (Met k i) e = cc
  refused_by Unmet e = absurd (let z : ◌≡◌ {A = ℕ} 0 1 = cc in omega arith)

  accepted_by : (d : Decision) {n k : ℕ} {x y : ℤ} → answer_by (plan_by d) ≡ settled n x y k → d ≡ Unmet
  accepted_by (Met k i) e = absurd (let z : ◌≡◌ {A = ℕ} 0 1 = cc in omega arith)
  accepted_by Unmet e = refl

  -- a file is turned away exactly by the first check whose condition holds
  pub refused_exactly : {k i : ℕ} → (answer_of l f places ≡ refused k i) ↔ TurnedAway l f places k i
  refused_exactly = (
    (λ e. (refuses_exactly (settlement_checks l f places) agrees).0 (refused_by (decision_of (settlement_checks l f places)) (sym answer_decided ∙ e))),
    (λ t. answer_decided ∙ ap (λ d. answer_by (plan_by d)) ((refuses_exactly (settlement_checks l f places) agrees).1 t)),
  )

  -- and accepted exactly where none holds
  pub accepted_exactly : (answer_of l f places ≡ totals (lists_of_file f)) ↔ NotTurnedAway l f places
  accepted_exactly = (
    (λ e. (passes_exactly (settlement_checks l f places) agrees).0 (accepted_by (decision_of (settlement_checks l f places)) (sym answer_decided ∙ e))),
    (λ h. answer_decided ∙ ap (λ d. answer_by (plan_by d)) ((passes_exactly (settlement_checks l f places) agrees).1 h)),
  )
