-- A file that passes checks 1 to 3, and what the tests of the header say of one that does not.
use Rattle.std.proofs.Common.{Some, None}
use mathlib.Core.Path.{◌≡◌, refl, sym, ◌∙◌}
use mathlib.Core.Bool.{Bool, true, false, cond, not, ◌&&◌}
use mathlib.Core.List.{List}
use mathlib.Core.Logic.{◌⊎◌, inl, inr}
use Prim.Native.Nat.{ℕ, ◌≤◌, ◌<◌}
use native.Mathlib.Omega.{arith}
use lib.Dec.{leb, ltb, eqb}
use lib.ListN.{length}
use borrow.Author.Tests.{eqb-true, eq-eqb, ltb-false, le-ltb, leb-true, le-leb}
use Rattle.numbers.specs.Bytes.{u32_at}
use Rattle.numbers.specs.Folds.{first}
use Rattle.numbers.specs.Order.{pick, Unmet}
use Rattle.numbers.specs.Checks.{decision_of}
use Rattle.dayfile.specs.Limits.{Limits, file_limits}
use Rattle.dayfile.specs.Layout.{counts_of, header_size, corrections_start, positions_start, length_of}
use Rattle.dayfile.specs.Opening.{within_limits, as_laid_out, opened_by, opened_of, counted_of}
use Rattle.dayfile.specs.WithinLimits.{CountsWithinLimits, LaidOut}
use Rattle.dayfile.specs.declared.file.DayFile.{DayFile}
use Rattle.dayfile.specs.Opening.{File, Refused}
use Rattle.numbers.proofs.Truth.{and_left, and_right}

-- ---- the tests, one after the other

module _ (l : Limits) (f : List ℕ) where
  by_tests_in_order : (short inside laid : Bool)
      → opened_by f (pick (cond short (Some 0) None) 1 (pick (cond (not inside) (Some 0) None) 2 (pick (cond (not laid) (Some 0) None) 3 Unmet)))
      ≡ cond short (Refused 1) (cond inside (cond laid (File (counts_of f)) (Refused 3)) (Refused 2))
  by_tests_in_order true inside laid = refl
  by_tests_in_order false false laid = refl
  by_tests_in_order false true false = refl
  by_tests_in_order false true true = refl

  pub opened_by_tests : opened_of l f
      ≡ cond (ltb (length f) header_size) (Refused 1) (cond (within_limits l (counts_of f)) (cond (as_laid_out f (counts_of f)) (File (counts_of f)) (Refused 3)) (Refused 2))
  unfolding opened_of decision_of first
  opened_by_tests = by_tests_in_order (ltb (length f) header_size) (within_limits l (counts_of f)) (as_laid_out f (counts_of f))

-- ---- a file that passes

pub record Opens (l : Limits) (f : List ℕ) : Type 0 where
  pub header : header_size ≤ length f
  pub marks_fit : u32_at f 0 ≤ l.marks
  pub corrections_fit : u32_at f 8 ≤ l.corrections
  pub positions_fit : u32_at f 16 ≤ l.positions
  pub marks-at : u32_at f 4 ≡ header_size
  pub corrections-at : u32_at f 12 ≡ corrections_start (counts_of f)
  pub positions-at : u32_at f 20 ≡ positions_start (counts_of f)
  pub ends_at : length f ≡ length_of (counts_of f)

module _ (l : Limits) (f : List ℕ) where
  by_tests : (short inside laid : Bool) {d : DayFile} → cond short (Refused 1) (cond inside (cond laid (File (counts_of f)) (Refused 3)) (Refused 2)) ≡ File d
      → (short ≡ false) × (inside ≡ true) × (laid ≡ true) × (counts_of f ≡ d)
  by_tests true inside laid p = cc
  by_tests false false laid p = cc
  by_tests false true false p = cc
  by_tests false true true p = (refl, refl, refl, cc)

  opens_of : ltb (length f) header_size ≡ false → within_limits l (counts_of f) ≡ true → as_laid_out f (counts_of f) ≡ true → Opens l f
  unfolding counts_of
  opens_of a b c =
      let d = counts_of f in
      let b' = and_left (leb d.marks l.marks && leb d.corrections l.corrections) (leb d.positions l.positions) b in
      let c' = and_left (eqb (u32_at f 4) header_size && eqb (u32_at f 12) (corrections_start d) && eqb (u32_at f 20) (positions_start d)) (eqb (length f) (length_of d)) c in
      let c'' = and_left (eqb (u32_at f 4) header_size && eqb (u32_at f 12) (corrections_start d)) (eqb (u32_at f 20) (positions_start d)) c' in
      record {
        header = ltb-false _ _ a;
        marks_fit = leb-true _ _ (and_left (leb d.marks l.marks) (leb d.corrections l.corrections) b');
        corrections_fit = leb-true _ _ (and_right (leb d.marks l.marks) (leb d.corrections l.corrections) b');
        positions_fit = leb-true _ _ (and_right (leb d.marks l.marks && leb d.corrections l.corrections) (leb d.positions l.positions) b);
        marks-at = eqb-true _ _ (and_left (eqb (u32_at f 4) header_size) (eqb (u32_at f 12) (corrections_start d)) c'');
        corrections-at = eqb-true _ _ (and_right (eqb (u32_at f 4) header_size) (eqb (u32_at f 12) (corrections_start d)) c'');
        positions-at = eqb-true _ _ (and_right (eqb (u32_at f 4) header_size && eqb (u32_at f 12) (corrections_start d)) (eqb (u32_at f 20) (positions_start d)) c');
        ends_at = eqb-true _ _ (and_right (eqb (u32_at f 4) header_size && eqb (u32_at f 12) (corrections_start d) && eqb (u32_at f 20) (positions_start d)) (eqb (length f) (length_of d)) c);
      }

  pub opens : {d : DayFile} → opened_of l f ≡ File d → Opens l f × (counts_of f ≡ d)
  opens p =
      let (a, b, c, e) = by_tests (ltb (length f) header_size) (within_limits l (counts_of f)) (as_laid_out f (counts_of f)) (sym (opened_by_tests l f) ∙ p) in
      (opens_of a b c, e)

  pub opens_file : Opens l f → opened_of l f ≡ File (counts_of f)
  unfolding counts_of
  opens_file h =
      opened_by_tests l f
      ∙ simp (
        le-ltb _ _ h.header,
        le-leb _ _ h.marks_fit,
        le-leb _ _ h.corrections_fit,
        le-leb _ _ h.positions_fit,
        eq-eqb _ _ h.marks-at,
        eq-eqb _ _ h.corrections-at,
        eq-eqb _ _ h.positions-at,
        eq-eqb _ _ h.ends_at,
      )

-- the counts that are given, by checks 1 and 2 alone
module _ (l : Limits) (f : List ℕ) where
  by_two : (short inside : Bool) {d : DayFile} → cond short (Refused 1) (cond inside (File (counts_of f)) (Refused 2)) ≡ File d
      → (short ≡ false) × (inside ≡ true) × (counts_of f ≡ d)
  by_two true inside p = cc
  by_two false false p = cc
  by_two false true p = (refl, refl, cc)

  pub counted-file : {d : DayFile} → counted_of l f ≡ File d → (ltb (length f) header_size ≡ false) × (within_limits l (counts_of f) ≡ true) × (counts_of f ≡ d)
  unfolding counted_of
  counted-file p = by_two (ltb (length f) header_size) (within_limits l (counts_of f)) p

  -- and the number of the first of the two that refuses
  refused_by_two : (short inside laid : Bool) {k : ℕ} → cond short (Refused 1) (cond inside (File (counts_of f)) (Refused 2)) ≡ Refused k
      → Refused k ≡ cond short (Refused 1) (cond inside (cond laid (File (counts_of f)) (Refused 3)) (Refused 2))
  refused_by_two true inside laid p = sym p
  refused_by_two false false laid p = sym p
  refused_by_two false true laid p = cc

  pub counted-refused : {k : ℕ} → counted_of l f ≡ Refused k → Refused k ≡ opened_of l f
  unfolding counted_of
  counted-refused p =
      refused_by_two (ltb (length f) header_size) (within_limits l (counts_of f)) (as_laid_out f (counts_of f)) p ∙ sym (opened_by_tests l f)

-- counts that pass the test are within the day file's own limits
pub counts-within : (d : DayFile) → within_limits file_limits d ≡ true → CountsWithinLimits d
counts-within d p =
    let m = leb d.marks file_limits.marks in
    let c = leb d.corrections file_limits.corrections in
    let n = leb d.positions file_limits.positions in
    let q = and_left (m && c) n p in
    record {
      marks = leb-true _ _ (and_left m c q);
      corrections = leb-true _ _ (and_right m c q);
      positions = leb-true _ _ (and_right (m && c) n p);
    }

-- a file that passes at the day file's own limits has counts within them, and the length that they give
pub laid_out : (f : List ℕ) {d : DayFile} → opened_of file_limits f ≡ File d → LaidOut f d
unfolding counts_of
laid_out f p =
    let (h, e) = opens file_limits f p in
    rw (← e) (record { counts-within = record { marks = h.marks_fit; corrections = h.corrections_fit; positions = h.positions_fit }; whole = h.ends_at })

-- a file longer than the limits allow is refused with 2 or 3
pub too_long : (f : List ℕ) → 58392 < length f → (opened_of file_limits f ≡ Refused 2) ⊎ (opened_of file_limits f ≡ Refused 3)
unfolding counts_of
too_long f h = go (within_limits file_limits (counts_of f)) refl (as_laid_out f (counts_of f)) refl
  where
    whole-header : ltb (length f) header_size ≡ false
    whole-header = le-ltb (length f) header_size (omega arith)

    go : (inside : Bool) → within_limits file_limits (counts_of f) ≡ inside → (laid : Bool) → as_laid_out f (counts_of f) ≡ laid
        → (opened_of file_limits f ≡ Refused 2) ⊎ (opened_of file_limits f ≡ Refused 3)
    go false p laid q = inl (opened_by_tests file_limits f ∙ rw (whole-header, p))
    go true p false q = inr (opened_by_tests file_limits f ∙ rw (whole-header, p, q))
    go true p true q =
        let g = opens_of file_limits f whole-header p q in
        absurd (omega (arith, g.ends_at, g.marks_fit, g.corrections_fit, g.positions_fit))
