-- The whole sheet: from its two parts, as they are written, to the definition.
use mathlib.Core.Path.{◌≡◌, refl, ap₂}
use Rattle.std.specs.Prelude.{Result}
use mathlib.Core.List.{List, ◌++◌}
use Prim.Native.Nat.{ℕ, ◌≤◌, ◌<◌}
use native.Mathlib.Nat.{le_trans}
use borrow.Author.Tests.{le-leb, lt-leb}
use lib.IntN.{ℤ}
use lib.ListN.{length}
use Rattle.text.specs.Writing.{Wrote, Writes}
use Rattle.text.proofs.Writing.{wrote_none, writes_as}
use Rattle.dayfile.specs.Limits.{file_limits}
use Rattle.settlement.specs.Settling.{said, plan_of, answer_of, amounts_after}
use Rattle.settlement.specs.declared.settling.Settled.{Settled}
use Rattle.faults.specs.declared.refusal.Refusal.{Refusal}
use Rattle.numbers.specs.Bytes.{Bytes}
use Rattle.report.specs.Sheet.{answer_text, positions_text, sheet_of, sheet_size, sheet_within, amounts_within}
use Rattle.report.proofs.Fits.{sheet_fits}

-- a buffer that may be too short
pub sheet_no_room : (file : List ℕ) (places : ℕ) (a : List ℤ) (out : List ℕ) → length out < sheet_size
    → Wrote (sheet_within (length out) file places) 0 out out × (a ≡ amounts_within (length out) file a)
unfolding sheet_within amounts_within
sheet_no_room file places a out h = rw (lt-leb _ _ h) (wrote_none out, refl)

module _ (file : List ℕ) (before now : List ℤ) (r : Result Settled Refusal) where
  parts_are_sheet : length now ≡ length before → said r ≡ answer_of file_limits file (length before)
      → positions_text (plan_of file_limits file (length now)) ++ answer_text (said r) ≡ sheet_of file (length before)
  unfolding sheet_of
  parts_are_sheet e f = ap₂ (λ k x. positions_text (plan_of file_limits file k) ++ answer_text x) e f

  pub sheet_written : Bytes file → {out after : List ℕ} {n : ℕ} → sheet_size ≤ length out → length now ≡ length before → said r ≡ answer_of file_limits file (length before)
      → now ≡ amounts_after file_limits file before → Writes (positions_text (plan_of file_limits file (length now)) ++ answer_text (said r)) n out after
      → Wrote (sheet_within (length out) file (length before)) n out after × (now ≡ amounts_within (length out) file before)
  unfolding sheet_within amounts_within
  sheet_written b h e f g w =
      rw (le-leb _ _ h) ((writes_as (parts_are_sheet e f) w).whole (le_trans (sheet_fits file (length before) b) h), g)
