-- Checks 9 to 11 go by which corrections stand in the list, and not by their order or how often.
use Rattle.std.proofs.Common.{None}
use mathlib.Core.Path.{◌≡◌, refl, sym, ap, ap₂, ◌∙◌}
use mathlib.Core.Bool.{Bool, true, false, not, ◌&&◌, ◌||◌}
use mathlib.Core.List.{List}
use Prim.Native.Nat.{ℕ, ◌<◌}
use native.Mathlib.Omega.{arith}
use lib.Dec.{leb, eqb, ltb}
use lib.ListN.{length}
use borrow.Author.Tests.{eqb-true, eq-eqb, ltb-true, ltb-false}
use Rattle.numbers.specs.Folds.{repeating, first}
use Rattle.dayfile.specs.Records.{Lists, correction_at, mark_at}
use Rattle.numbers.specs.Checks.{decision_of, finding_of}
use Rattle.checks.specs.Corrections.{bad_price, clashing, clash_pair, CorrectionCheck, CorrectionMark, CorrectionPrice, CorrectionClash, correction_checks}
use Rattle.checks.specs.Judging.{record_checks}
use Rattle.settlement.specs.Prices.{AllIn}
use Rattle.dayfile.specs.declared.records.Mark.{Mark}
use Rattle.dayfile.specs.declared.records.Correction.{Correction}
use Rattle.dayfile.specs.declared.records.Position.{Position}
use Rattle.numbers.proofs.Truth.{eqb_comm}
use Rattle.numbers.proofs.Searches.{clear_first, some_clear, clear_some}
use Rattle.numbers.proofs.Checks.{unmet}
use Rattle.checks.proofs.Passed.{parts, whole, correction_passes}
use Rattle.numbers.specs.Order.{Unmet}

abbrev pub lists_with : List Mark → List Position → List Correction → Lists
lists_with ms ps cs = record { marks = ms; corrections = cs; positions = ps }

-- ---- check 11: two records that clash

clash_comm : (a b : Correction) → clashing a b ≡ clashing b a
clash_comm a b =
    ap₂ (λ x y. x && y) (eqb_comm a.number b.number)
    (ap₂ (λ x y. not x || not y) (eqb_comm a.mark b.mark) (eqb_comm a.price b.price))

clash_self : (a : Correction) → clashing a a ≡ false
clash_self a = rw (eq-eqb a.number a.number refl, eq-eqb a.mark a.mark refl, eq-eqb a.price a.price refl)

-- one number, one price
pub one_price : (a b : Correction) → clashing a b ≡ false → a.number ≡ b.number → a.price ≡ b.price
one_price a b e q = eqb-true a.price b.price (last (eqb a.mark b.mark) (eqb a.price b.price) (rw (eq-eqb a.number b.number q) at e))
  where
    last : (x y : Bool) → (not x || not y) ≡ false → y ≡ true
    last true true h = refl
    last true false h = sym h
    last false true h = refl
    last false false h = sym h

abbrev pub Apart : List Correction → Type 0
Apart cs = (i j : ℕ) → i < length cs → j < length cs → clashing (correction_at cs i) (correction_at cs j) ≡ false

module _ (ms : List Mark) (ps : List Position) (cs : List Correction) (passed : decision_of (record_checks (lists_with ms ps cs)) ≡ Unmet) where
  later : (i j : ℕ) → i < length cs → j < i → clashing (correction_at cs i) (correction_at cs j) ≡ false
  later i j hi hj =
      some_clear (λ k. clashing (correction_at cs i) (correction_at cs k)) i j
      (correction_passes (lists_with ms ps cs) passed i CorrectionClash hi) hj

  pub apart : Apart cs
  apart i j hi hj = go (ltb j i) refl (ltb i j) refl
    where
      go : (a : Bool) → ltb j i ≡ a → (b : Bool) → ltb i j ≡ b → clashing (correction_at cs i) (correction_at cs j) ≡ false
      go true p b q = later i j hi (ltb-true _ _ p)
      go false p true q = clash_comm (correction_at cs i) (correction_at cs j) ∙ later j i hj (ltb-true _ _ q)
      go false p false q =
          let e : i ≡ j = omega (arith, ltb-false j i p, ltb-false i j q) in rw e (clash_self (correction_at cs j))

  -- the same corrections, in another order or more often: they pass too
  pub still_passes : (ds : List Correction) → AllIn ds cs → decision_of (record_checks (lists_with ms ps ds)) ≡ Unmet
  still_passes ds back =
      let p = parts (lists_with ms ps cs) passed in
      whole (lists_with ms ps ds) p.0 (unmet (correction_checks ms ds) (λ c m. still c)) p.2
    where
      -- a test of one correction
      each : (t : Correction → Bool) → ((i : ℕ) → i < length cs → t (correction_at cs i) ≡ false) → first (λ i. t (correction_at ds i)) (length ds) ≡ None
      each t h = clear_first (λ i. t (correction_at ds i)) (length ds) (λ j hj. let (i, hi, e) = back j hj in ap t (sym e) ∙ h i hi)

      clashes : first (repeating (clash_pair ds)) (length ds) ≡ None
      clashes =
          clear_first (repeating (clash_pair ds)) (length ds)
          (λ i hi. clear_some (clash_pair ds i) i
          (λ k hk.
          let (i', hi', e) = back i hi in
          let (k', hk', f) = back k (omega arith) in
          ap₂ clashing (sym e) (sym f) ∙ apart i' k' hi' hk'))

      still : (c : CorrectionCheck) → finding_of (correction_checks ms ds) c ≡ None
      still CorrectionMark = each (λ c. leb (length ms) c.mark) (λ i h. correction_passes (lists_with ms ps cs) passed i CorrectionMark h)
      still CorrectionPrice = each (λ c. bad_price (mark_at ms c.mark) c.price) (λ i h. correction_passes (lists_with ms ps cs) passed i CorrectionPrice h)
      still CorrectionClash = clashes
