-- What `find` answers is what the condition of a check says, in both directions: the first record where it holds, or that it holds at none.
use Rattle.std.proofs.Common.{◌≡◌, ℕ, Bool, true, false, cond, not, ltb, ◌↔◌, List, map, length, sym, refl, ap, ◌∙◌, arith, Some, None}
use Rattle.numbers.specs.Folds.{first}
use Rattle.numbers.specs.Order.{pick, found_in, Decision, Met, Unmet}
use Rattle.numbers.specs.Checks.{number_of, FindsFirst, FindsNothing, decision_of, decision_for}
use Rattle.numbers.specs.declared.wanted.Wanted.{Wanted}
use Rattle.numbers.specs.declared.wanted.Wanted.TheVariants.{One}
use Rattle.numbers.proofs.Checks.{Agree, refuses_exactly, passes_exactly, decision-only, decision-before, decision_for-before}
use Rattle.numbers.proofs.Findings.{distinct, finds_exactly, finds_nothing, found_decided, refusal_found, nothing_found}
use Rattle.dayfile.specs.Limits.{Limits, file_limits}
use Rattle.dayfile.specs.Records.{Lists}
use Rattle.dayfile.specs.Layout.{header_size, counts_of, lists_in, lists_of_file}
use Rattle.dayfile.specs.Opening.{Short, header_check, header_checks, within_limits, as_laid_out, looked_at, header_decision, counted_of}
use Rattle.dayfile.specs.WithinLimits.{CountsWithinLimits}
use Rattle.dayfile.specs.declared.file.DayFile.{DayFile}
use Rattle.dayfile.specs.Opening as opened
use Rattle.dayfile.proofs.Opening.{counts-within, counted-file}
use Rattle.dayfile.proofs.Refusals.{header_agrees}
use Rattle.checks.specs.Judging.{record_checks, file_checks, judged_of}
use Rattle.checks.specs.Corrections.{resent_of}
use Rattle.checks.specs.Judging.{Passed, Refused}
use Rattle.checks.specs.Finding.{looked, checks_of, found_of}
use Rattle.checks.proofs.Agreement.{file_agrees}
use Rattle.checks.proofs.Judgements.{decides, goes_on}
use Rattle.checks.proofs.Refusals.{judge_refuses, judge_passes}

-- ---- in words

module _ (l : Limits) (f : List ℕ) where
  looked_agrees : (short inside : Bool) → Agree (looked l f short inside)
  looked_agrees true inside = λ c i. header_agrees l f Short i
  looked_agrees false false = header_agrees l f
  looked_agrees false true = file_agrees l f

  -- no two checks have one number
  looked-apart : (short inside : Bool) → distinct (map (number_of (looked l f short inside)) (looked l f short inside).order) ≡ true
  looked-apart true inside = refl
  looked-apart false false = refl
  looked-apart false true = refl

  module _ (k : ℕ) where
    -- it answers record i exactly where the condition of check k holds there and at no record before it
    pub find_exactly : {i : ℕ} → (found_of l f k ≡ Some i) ↔ FindsFirst (checks_of l f) k i
    unfolding found_of
    find_exactly = finds_exactly (checks_of l f) (looked_agrees (ltb (length f) header_size) (within_limits l (counts_of f))) (looked-apart (ltb (length f) header_size) (within_limits l (counts_of f))) k

    -- and nothing exactly where it holds at none
    pub find_nothing : (found_of l f k ≡ None) ↔ FindsNothing (checks_of l f) k
    unfolding found_of
    find_nothing = finds_nothing (checks_of l f) (looked_agrees (ltb (length f) header_size) (within_limits l (counts_of f))) (looked-apart (ltb (length f) header_size) (within_limits l (counts_of f))) k

-- ---- and the judgement

module _ (l : Limits) (f : List ℕ) where
  -- the header's checks, by their tests
  header_by_tests : decision_of (header_checks l f) ≡ pick (cond (ltb (length f) header_size) (Some 0) None) 1
      (pick (cond (not (within_limits l (counts_of f))) (Some 0) None) 2 (pick (cond (not (as_laid_out f (counts_of f))) (Some 0) None) 3 Unmet))
  unfolding decision_of first
  header_by_tests = refl

  file_by_header : {k i : ℕ} → decision_of (header_checks l f) ≡ Met k i → decision_of (file_checks l f) ≡ Met k i
  file_by_header p = decision-before (header_checks l f) (record_checks (lists_of_file f)) ∙ rw p

  -- what is looked at decides what all checks decide
  by_looked : (short inside : Bool) → ltb (length f) header_size ≡ short → within_limits l (counts_of f) ≡ inside
      → decision_of (looked l f short inside) ≡ decision_of (file_checks l f)
  by_looked true inside p q =
      let first-check : decision_of (header_checks l f) ≡ Met 1 0 = header_by_tests ∙ rw p in
      decision-only (header_check l f Short) ∙ rw p (sym (file_by_header first-check))
  by_looked false false p q = let e : decision_of (header_checks l f) ≡ Met 2 0 = header_by_tests ∙ rw (p, q) in e ∙ sym (file_by_header e)
  by_looked false true p q = refl

  pub looked_decides : decision_of (checks_of l f) ≡ decision_of (file_checks l f)
  looked_decides = by_looked (ltb (length f) header_size) (within_limits l (counts_of f)) refl refl

  -- the check that refuses a file finds the record that it refuses at
  pub refused-found : {k i : ℕ} → judged_of l f ≡ Refused k i → found_of l f k ≡ Some i
  unfolding found_of
  refused-found p =
      refusal_found (checks_of l f) (looked_agrees l f (ltb (length f) header_size) (within_limits l (counts_of f)))
      (looked-apart l f (ltb (length f) header_size) (within_limits l (counts_of f)))
      (looked_decides ∙ (refuses_exactly (file_checks l f) (file_agrees l f)).1 ((judge_refuses l f).0 p))

  -- and in a file that passes no check finds anything
  pub passed_clear : judged_of l f ≡ Passed (counts_of f) (resent_of (lists_of_file f).corrections) → (k : ℕ) → found_of l f k ≡ None
  unfolding found_of
  passed_clear p k =
      nothing_found (checks_of l f) (looked_agrees l f (ltb (length f) header_size) (within_limits l (counts_of f)))
      (looked-apart l f (ltb (length f) header_size) (within_limits l (counts_of f)))
      (looked_decides ∙ (passes_exactly (file_checks l f) (file_agrees l f)).1 ((judge_passes l f).0 p)) k

-- ---- what is decided where the checks are looked at, those of the header and then those of the records

module _ (f : List ℕ) (w : Wanted) where
  -- where the header refuses
  pub header_decides : {n i : ℕ} → Met n i ≡ header_decision file_limits f w → Met n i ≡ decision_for (checks_of file_limits f) w
  unfolding header_decision
  header_decides {n} {i} p = go (ltb (length f) header_size) (within_limits file_limits (counts_of f)) p
    where
      go : (short inside : Bool) → Met n i ≡ decision_for (looked_at file_limits f short) w → Met n i ≡ decision_for (looked file_limits f short inside) w
      go true inside p = p
      go false false p = p
      go false true p = decides _ p ∙ sym (decision_for-before (header_checks file_limits f) (record_checks (lists_of_file f)) w)

  -- where it does not give counts within the limits
  pub header_alone : {n : ℕ} {d : Decision} → counted_of file_limits f ≡ opened.Refused n → d ≡ header_decision file_limits f w
      → d ≡ decision_for (checks_of file_limits f) w
  unfolding counted_of header_decision
  header_alone {n} {d} o p = go (ltb (length f) header_size) (within_limits file_limits (counts_of f)) o p
    where
      go : (short inside : Bool) → cond short (opened.Refused 1) (cond inside (opened.File (counts_of f)) (opened.Refused 2)) ≡ opened.Refused n
          → d ≡ decision_for (looked_at file_limits f short) w → d ≡ decision_for (looked file_limits f short inside) w
      go true inside o p = p
      go false false o p = p
      go false true o p = absurd (let z : ◌≡◌ {A = ℕ} 0 1 = cc in omega arith)

  -- where it does, by the lists
  pub records_decide : {d : DayFile} {ls : Lists} {r : Decision} → counted_of file_limits f ≡ opened.File d → ls ≡ lists_in f d → Unmet ≡ header_decision file_limits f w
      → r ≡ decision_for (record_checks ls) w → r ≡ decision_for (checks_of file_limits f) w
  unfolding header_decision
  records_decide o l h r =
      let (a, b, e) = counted-file file_limits f o in
      rw (a, b) (goes_on (rw a at h) (r ∙ rw (l, ← e) refl) ∙ sym (decision_for-before (header_checks file_limits f) (record_checks (lists_of_file f)) w))

pub counted-within : (f : List ℕ) {d : DayFile} → counted_of file_limits f ≡ opened.File d → CountsWithinLimits d
counted-within f {d} o = let (a, b, e) = counted-file file_limits f o in counts-within d (rw e at b)

-- what is found by check k alone is the record of its decision
pub found_by : (f : List ℕ) (k : ℕ) {d : Decision} → d ≡ decision_for (checks_of file_limits f) (One k) → found_in d ≡ found_of file_limits f k
unfolding found_of
found_by f k p = ap found_in p ∙ found_decided (checks_of file_limits f) k
