-- A file that is accepted, and its positions.
use mathlib.Core.Path.{◌≡◌, refl, sym, ap, ◌∙◌}
use mathlib.Core.Bool.{Bool, true, false, cond}
use mathlib.Core.List.{List}
use Prim.Native.Nat.{ℕ, ◌≤◌}
use native.Mathlib.Omega.{arith}
use lib.Dec.{ltb}
use lib.IntN.{ℤ}
use lib.ListN.{length}
use borrow.Author.Tests.{ltb-false, le-ltb}
use Rattle.dayfile.specs.Limits.{Limits}
use Rattle.dayfile.specs.Records.{Lists}
use Rattle.dayfile.specs.Layout.{lists_of_file}
use Rattle.numbers.specs.Checks.{decision_of}
use Rattle.checks.specs.Judging.{record_checks, file_checks}
use Rattle.dayfile.proofs.Opening.{Opens, opens, opens_file}
use Rattle.checks.proofs.Passed.{passed_parts, parts_passed, mark_in_lem, lots_in}
use Rattle.settlement.specs.Settling.{settled, accept, refuse, plan_of, answer_by, answer_of}
use Rattle.settlement.specs.SettlingSteps.{ListsPass, Payable, Named}
use Rattle.settlement.proofs.Plans.{plan_from, plan_decided}
use Rattle.numbers.specs.Order.{Decision, Met, Unmet}

pub payable : (ls : Lists) → ListsPass ls → Payable ls.positions
payable ls a =
    record {
      few = a.lists_within.positions;
      mark = λ i h. omega (arith, mark_in_lem ls a.passed i h, a.lists_within.marks);
      lots = λ i h. lots_in ls a.passed i h;
    }

pub named : (ls : Lists) → ListsPass ls → Named ls.marks ls.positions
named ls a = record { few = a.lists_within.marks; mark = λ i h. mark_in_lem ls a.passed i h }

pub record AcceptedFile (l : Limits) (f : List ℕ) (places : ℕ) : Type 0 where
  pub opens : Opens l f
  pub passed : decision_of (record_checks (lists_of_file f)) ≡ Unmet
  pub room : length (lists_of_file f).positions ≤ places

module _ (l : Limits) (f : List ℕ) (places : ℕ) where
  pub accepted_plan : AcceptedFile l f places → plan_of l f places ≡ accept (lists_of_file f)
  accepted_plan h = plan_decided l f places ∙ rw (parts_passed l f (opens_file l f h.opens) h.passed, le-ltb _ _ h.room)

  room_ok : (t : Bool) → ltb places (length (lists_of_file f).positions) ≡ t → {n k : ℕ} {x y : ℤ} → answer_by (cond t (refuse 14 0) (accept (lists_of_file f))) ≡ settled n x y k
      → length (lists_of_file f).positions ≤ places
  room_ok true q p = absurd (let z : ◌≡◌ {A = ℕ} 0 1 = cc in omega arith)
  room_ok false q p = ltb-false _ _ q

  by_decision : (d : Decision) → decision_of (file_checks l f) ≡ d → {n k : ℕ} {x y : ℤ} → answer_by (plan_from f places d) ≡ settled n x y k → AcceptedFile l f places
  by_decision (Met k i) q p = absurd (let z : ◌≡◌ {A = ℕ} 0 1 = cc in omega arith)
  by_decision Unmet q p =
      let (o, passed) = passed_parts l f q in
      record { opens = (opens l f o).0; passed = passed; room = room_ok (ltb places (length (lists_of_file f).positions)) refl p }

  -- a file is accepted where its answer is a settlement
  pub settled_accepted : {n k : ℕ} {x y : ℤ} → answer_of l f places ≡ settled n x y k → AcceptedFile l f places
  unfolding answer_of
  settled_accepted p = by_decision (decision_of (file_checks l f)) refl (ap answer_by (sym (plan_decided l f places)) ∙ p)
