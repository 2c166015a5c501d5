-- The change in value of a mark, and the array of the changes of all marks.
use mathlib.Core.Path.{◌≡◌, refl, sym, ap, ◌∙◌}
use mathlib.Core.Bool.{Bool, true, false}
use mathlib.Core.List.{List, ◌++◌}
use Prim.Native.Nat.{ℕ, zero, suc, ◌+◌, ◌-◌, ◌≤◌, ◌<◌}
use native.Mathlib.Omega.{arith}
use lib.Dec.{ltb}
use borrow.Author.Tests.{ltb-true, ltb-false}
use lib.ListN.{length, get_or, drop, replicate, length-replicate}
use lib.Seq.{get_or-append-add, get_or-drop}
use lib.IntN.{ℤ, pos, nat_abs, ◌-ℤ◌}
use Rattle.settlement.proofs.Pricing.{value_bound}
use Rattle.numbers.specs.Folds.{table, front}
use Rattle.dayfile.specs.Records.{mark_at}
use Rattle.dayfile.specs.Limits.{file_limits}
use Rattle.settlement.specs.Prices.{value_at, change_of}
use Rattle.settlement.specs.SettlingSteps.{changes_of, blank, Bounded, change_cap}
use Rattle.numbers.specs.Integers.{entry_of}
use Rattle.dayfile.specs.declared.records.Mark.{Mark}
use Rattle.numbers.proofs.Signed.{size_sub}
use Rattle.numbers.proofs.Tables.{entry, length-table}

module _ (ms : List Mark) (final : ℕ → ℕ) where
  pub change_by : (i : ℕ) {m : Mark} {p v w : ℕ} {r : ℤ} → r ≡ pos v -ℤ pos w → v ≡ value_at m p → w ≡ value_at m m.previous
      → p ≡ final i → m ≡ mark_at ms i → r ≡ change_of ms final i
  unfolding change_of
  change_by i {r = r} e1 e2 e3 e4 e5 = rw (← e5, ← e4, ← e2, ← e3) e1

  pub change_bound : (i : ℕ) → nat_abs (change_of ms final i) ≤ change_cap
  unfolding change_of
  change_bound i =
      let m = mark_at ms i in
      omega (arith, size_sub (pos (value_at m (final i))) (pos (value_at m m.previous)), value_bound m.code (final i), value_bound m.code m.previous)

  -- the array's entries
  pub change_at : (m : ℕ) → m < length ms → entry_of (changes_of ms final) m ≡ change_of ms final m
  change_at m h = entry (change_of ms final) (length ms) m _ (pos 0) h

pub length-blank : length blank ≡ file_limits.marks
unfolding blank
length-blank = length-replicate file_limits.marks (pos 0)

zeros_at : (n m : ℕ) → get_or (replicate n (pos 0)) m (pos 0) ≡ pos 0
zeros_at zero m = refl
zeros_at (suc n) zero = refl
zeros_at (suc n) (suc m) = zeros_at n m

-- past what is filled in
front_past : (f : ℕ → ℤ) (n m : ℕ) → n ≤ m → entry_of (front f blank n) m ≡ pos 0
unfolding blank
front_past f n m h =
    let t : List ℤ = table f n in
    let q : length t + (m - n) ≡ m = rw (length-table f n) (omega arith) in
    ap (λ k. get_or (t ++ drop n (replicate file_limits.marks (pos 0))) k (pos 0)) (sym q) ∙ get_or-append-add t (drop n (replicate file_limits.marks (pos 0))) (m - n) (pos 0)
    ∙ get_or-drop n (replicate file_limits.marks (pos 0)) (m - n) (pos 0) ∙ zeros_at file_limits.marks (n + (m - n))

-- past the last mark
pub change_past : (ms : List Mark) (final : ℕ → ℕ) (m : ℕ) → length ms ≤ m → entry_of (changes_of ms final) m ≡ pos 0
change_past ms final m h = front_past (change_of ms final) (length ms) m h

pub blank-at : (m : ℕ) → get_or blank m (pos 0) ≡ pos 0
unfolding blank
blank-at m = zeros_at file_limits.marks m

bounded : (ms : List Mark) (final : ℕ → ℕ) → Bounded (changes_of ms final)
bounded ms final = record { entries = λ m. go m (ltb m (length ms)) refl }
  where
    go : (m : ℕ) (b : Bool) → ltb m (length ms) ≡ b → nat_abs (entry_of (changes_of ms final) m) ≤ change_cap
    go m true e = rw (change_at ms final m (ltb-true _ _ e)) (change_bound ms final m)
    go m false e = rw (front_past (change_of ms final) (length ms) m (ltb-false _ _ e)) (omega arith)

pub bounded_as : (ms : List Mark) (final : ℕ → ℕ) {a : List ℤ} → a ≡ changes_of ms final → Bounded a
bounded_as ms final e = rw e (bounded ms final)
