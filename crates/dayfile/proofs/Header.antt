-- What the tests of the header say of a file.
use Rattle.std.proofs.Common.{Some, None}
use mathlib.Core.Path.{◌≡◌, refl, sym, ap, ◌∙◌}
use mathlib.Core.Bool.{Bool, true, false, cond, not}
use mathlib.Core.List.{List}
use Prim.Native.Nat.{ℕ, ◌≤◌, ◌<◌}
use lib.ListN.{length}
use borrow.Author.Tests.{lt-ltb, le-ltb, ltb-false}
use Rattle.numbers.specs.Folds.{first}
use Rattle.numbers.specs.Order.{pick, or_found, sought, Decision, Met, Unmet}
use Rattle.numbers.specs.Checks.{decision_for}
use Rattle.numbers.specs.declared.wanted.Wanted.{Wanted}
use Rattle.numbers.proofs.Order.{nothing_sought}
use Rattle.numbers.proofs.Checks.{decision_by_steps}
use Rattle.dayfile.specs.Limits.{file_limits}
use Rattle.dayfile.specs.Layout.{counts_of, header_size}
use Rattle.dayfile.specs.Opening.{within_limits, as_laid_out, opened_of, header_checks, looked_at, header_decision, decided_by_tests, counted_of}
use Rattle.dayfile.specs.declared.file.DayFile.{DayFile}
use Rattle.dayfile.specs.Opening.{File, Refused}
use Rattle.dayfile.proofs.Opening.{opened_by_tests, counted-file}

-- a file whose counts are given: the layout decides
module _ (s : List ℕ) {d : DayFile} (o : counted_of file_limits s ≡ File d) where
  pub whole-header : header_size ≤ length s
  whole-header = ltb-false (length s) header_size (counted-file file_limits s o).0

  pub by_layout : {b : Bool} → as_laid_out s d ≡ b → cond b (File d) (Refused 3) ≡ opened_of file_limits s
  by_layout e = let (short, inside, q) = counted-file file_limits s o in sym (opened_by_tests file_limits s ∙ rw (short, inside, q, e))

-- ---- each check by itself

module _ (s : List ℕ) (w : Wanted) where
  none_more : (d : Decision) → or_found (or_found d 2 (sought w 2 None)) 3 (sought w 3 None) ≡ d
  none_more (Met k i) = refl
  none_more Unmet = rw (nothing_sought w 2, nothing_sought w 3)

  pub decided_short : length s < header_size → {r : Decision} → r ≡ decided_by_tests true false false w → r ≡ header_decision file_limits s w
  unfolding header_decision decision_for first
  decided_short h e =
      let short = lt-ltb (length s) header_size h in
      e ∙ none_more (or_found Unmet 1 (sought w 1 (Some 0)))
      ∙ rw short (ap (λ b. pick (sought w 1 (cond b (Some 0) None)) 1 Unmet) (sym short))

  pub decided_whole : {d : DayFile} → header_size ≤ length s → d ≡ counts_of s → {a b : Bool} → a ≡ within_limits file_limits d → b ≡ as_laid_out s d
      → {r : Decision} → r ≡ decided_by_tests false (not a) (not b) w → r ≡ header_decision file_limits s w
  unfolding header_decision first
  decided_whole {d} h q {a} {b} p t e =
      let long = le-ltb (length s) header_size h in
      e ∙ ap (λ c. decided_by_tests c (not a) (not b) w) (sym long) ∙ rw (p, t, q) (decision_by_steps (header_checks file_limits s) w)
      ∙ ap (λ c. decision_for (looked_at file_limits s c) w) (sym long)

module _ (s : List ℕ) where
  pub counted-short : length s < header_size → Refused 1 ≡ counted_of file_limits s
  unfolding counted_of
  counted-short h = rw (lt-ltb (length s) header_size h)

  pub counted-whole : {d : DayFile} → header_size ≤ length s → d ≡ counts_of s → {a : Bool} → within_limits file_limits d ≡ a → cond a (File d) (Refused 2) ≡ counted_of file_limits s
  unfolding counted_of
  counted-whole h q e = rw (le-ltb (length s) header_size h, ← q, e)
