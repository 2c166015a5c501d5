-- From what a file is judged to be to the plan, and from the plan to the answer and the slice.
use Rattle.std.proofs.Common.{Result, Err}
use mathlib.Core.Path.{◌≡◌, refl, sym, ap, ◌∙◌}
use mathlib.Core.List.{List}
use Prim.Native.Nat.{ℕ, ◌≤◌, ◌<◌}
use native.Mathlib.Omega.{arith}
use borrow.Author.Tests.{lt-ltb, le-ltb}
use lib.ListN.{length}
use lib.IntN.{ℤ}
use Rattle.dayfile.specs.Limits.{Limits, file_limits}
use Rattle.dayfile.specs.Records.{Lists}
use Rattle.numbers.specs.Checks.{decision_of}
use Rattle.dayfile.specs.Layout.{counts_of, lists_in, lists_of_file}
use Rattle.dayfile.specs.Opening.{header_checks, opened_of}
use Rattle.dayfile.specs.declared.file.DayFile.{DayFile}
use Rattle.dayfile.specs.Opening as opened
use Rattle.dayfile.proofs.Refusals.{refused_decides}
use Rattle.numbers.proofs.Checks.{decision-before}
use Rattle.checks.specs.Corrections.{resent_of}
use Rattle.checks.specs.Judging.{record_checks, file_checks, judged_by, judged_of}
use Rattle.checks.specs.Judging.{Judged}
use Rattle.checks.specs.Judging as judged
use Rattle.dayfile.proofs.Opening.{laid_out}
use Rattle.dayfile.proofs.Parts.{lists_within}
use Rattle.checks.proofs.Passed.{passed_parts}
use Rattle.settlement.specs.Settling.{settled, refused, said, answer_by, Plan, accept, refuse, room_plan, judged_plan, plan_of, answer_of, amounts_after}
use Rattle.settlement.specs.SettlingSteps.{ListsPassWith, Settles}
use Rattle.settlement.specs.declared.settling.Settled.{Settled}
use Rattle.faults.specs.Faults.{number_of}
use Rattle.faults.specs.declared.refusal.Refusal.{Refusal}
use Rattle.numbers.specs.Order.{Decision, Met, Unmet}

pub settled_by : {n n' k k' : ℕ} {x x' y y' : ℤ} → n ≡ n' → x ≡ x' → y ≡ y' → k ≡ k' → settled n x y k ≡ settled n' x' y' k'
settled_by o p q r = cc

-- check 14
module _ (ls : Lists) (places : ℕ) where
  pub plan_short : places < length ls.positions → room_plan ls places ≡ refuse 14 0
  plan_short h = rw (lt-ltb _ _ h)

  pub plan_accepted : length ls.positions ≤ places → room_plan ls places ≡ accept ls
  plan_accepted h = rw (le-ltb _ _ h)

-- a refusal writes nothing
pub refuses : {plan : Plan} {r : Refusal} {a : List ℤ} → plan ≡ refuse (number_of r.fault) r.index → Settles plan (Err r) a a
refuses e = rw e (record { answer = refl; written = refl })

pub settles_as : {plan other : Plan} {r : Result Settled Refusal} {a b : List ℤ} → plan ≡ other → Settles other r a b → Settles plan r a b
settles_as e s = rw e s

pub settles_of : (places : ℕ) {ls ls' : Lists} {r : Result Settled Refusal} {a b : List ℤ} → ls ≡ ls' → Settles (room_plan ls places) r a b → Settles (room_plan ls' places) r a b
settles_of places e s = rw e at s

pub lists_pass_of : {ls ls' : Lists} {r : ℕ} → ls ≡ ls' → ListsPassWith ls' r → ListsPassWith ls r
lists_pass_of e p = rw e p

-- ---- from what a file is judged to be

-- the plan by what the checks decide
abbrev pub plan_from : List ℕ → ℕ → Decision → Plan
plan_from f places (Met k i) = refuse k i
plan_from f places Unmet = room_plan (lists_of_file f) places

pub plan_decided : (l : Limits) (f : List ℕ) (places : ℕ) → plan_of l f places ≡ plan_from f places (decision_of (file_checks l f))
unfolding plan_of judged_of
plan_decided l f places = go (decision_of (file_checks l f))
  where
    go : (d : Decision) → judged_plan f places (judged_by (counts_of f) (resent_of (lists_of_file f).corrections) d) ≡ plan_from f places d
    go (Met k i) = refl
    go Unmet = refl

-- a file that does not open
pub refused_plan : (l : Limits) (f : List ℕ) (places : ℕ) {k : ℕ} → opened_of l f ≡ opened.Refused k → plan_of l f places ≡ refuse k 0
refused_plan l f places o = plan_decided l f places ∙ rw (decision-before (header_checks l f) (record_checks (lists_of_file f)), refused_decides l f o)

pub refused-answer : (l : Limits) (f : List ℕ) (places : ℕ) {k : ℕ} → opened_of l f ≡ opened.Refused k → answer_of l f places ≡ refused k 0
unfolding answer_of
refused-answer l f places o = ap answer_by (refused_plan l f places o)

module _ (f : List ℕ) where
  -- the plan carried out is the answer
  pub answered : (a : List ℤ) {q : Judged} {r : Result Settled Refusal} {b : List ℤ} → q ≡ judged_of file_limits f → Settles (judged_plan f (length a) q) r a b
      → (said r ≡ answer_of file_limits f (length a)) × (b ≡ amounts_after file_limits f a)
  unfolding answer_of amounts_after plan_of
  answered a e h =
      let w = settles_as (ap (judged_plan f (length a)) (sym e)) h in
      (w.answer, w.written)

  -- the lists of a file that passes
  passed_lists_by : (d : Decision) → decision_of (file_checks file_limits f) ≡ d → {c : DayFile} {r : ℕ} → judged_by (counts_of f) (resent_of (lists_of_file f).corrections) d ≡ judged.Passed c r
      → ListsPassWith (lists_in f c) r
  passed_lists_by (Met k i) e p = absurd (let z : ◌≡◌ {A = ℕ} 0 1 = cc in omega arith)
  passed_lists_by Unmet e {c} {r} p =
      let same : counts_of f ≡ c = cc in
      let counted : resent_of (lists_of_file f).corrections ≡ r = cc in
      let (h, passed) = passed_parts file_limits f e in
      rw (← same) (record { lists_pass = record { lists_within = lists_within f (counts_of f) (laid_out f h).counts-within; passed = passed }; counted = sym counted })

  pub passed_lists : {c : DayFile} {r : ℕ} → judged.Passed c r ≡ judged_of file_limits f → ListsPassWith (lists_in f c) r
  unfolding judged_of
  passed_lists e = passed_lists_by (decision_of (file_checks file_limits f)) refl (sym e)
