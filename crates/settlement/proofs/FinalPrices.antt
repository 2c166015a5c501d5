-- The final price of a mark: what the fold over the corrections finds, and that it goes by which corrections stand in the list.
use mathlib.Core.Path.{◌≡◌, refl, sym, ap, ◌∙◌, fun_ext}
use mathlib.Core.Bool.{Bool, true, false, cond}
use mathlib.Core.List.{List}
use Prim.Native.Nat.{ℕ, zero, suc, ◌≤◌, ◌<◌}
use native.Mathlib.Nat.{not-suc-le-zero}
use native.Mathlib.Omega.{arith}
use lib.Dec.{eqb, leb}
use lib.ListN.{length}
use borrow.Author.Tests.{eqb-true, eqb-false, leb-true, leb-false}
use Rattle.dayfile.specs.Records.{correction_at, mark_at}
use Rattle.settlement.specs.Prices.{Highest, AllIn, higher_of, highest_of, or_today, final_of}
use Rattle.dayfile.specs.declared.records.Mark.{Mark}
use Rattle.dayfile.specs.declared.records.Correction.{Correction}
use mathlib.Core.Logic.{◌≢◌}
use Rattle.settlement.specs.Prices.{FinalPrice, corrected, uncorrected, DecidingCorrection, none, highest}
use Rattle.numbers.proofs.Searches.{extend}
use Rattle.settlement.proofs.Corrections.{Apart, one_price}

module _ (cs : List Correction) (m n : ℕ) where
  abbrev c : Correction
  c = correction_at cs n

  replaced : (l : Highest) → DecidingCorrection cs m n l → c.mark ≡ m → DecidingCorrection cs m (suc n) (higher_of l c)
  replaced l (none e h) q = highest n (omega arith) q (rw e) (extend n (λ p. omega arith) (λ j hj p. absurd (h j hj p)))
  replaced l (highest k hk nk e max) q = go (leb (correction_at cs k).number c.number) refl
    where
      go : (b : Bool) → leb (correction_at cs k).number c.number ≡ b → DecidingCorrection cs m (suc n) (higher_of l c)
      go true w =
          let up : (correction_at cs k).number ≤ c.number = leb-true _ _ w in
          highest n (omega arith) q (rw (e, w)) (extend n (λ p. omega arith) (λ j hj p. let x = max j hj p in omega arith))
      go false w =
          let down : c.number < (correction_at cs k).number = leb-false _ _ w in
          highest k (omega arith) nk (rw (e, w)) (extend n (λ p. omega arith) max)

  passed_by : (l : Highest) → DecidingCorrection cs m n l → c.mark ≢ m → DecidingCorrection cs m (suc n) l
  passed_by l (none e h) q = none e (extend n q h)
  passed_by l (highest k hk nk e max) q = highest k (omega arith) nk e (extend n (λ p. absurd (q p)) max)

  next : (l : Highest) → DecidingCorrection cs m n l → (b : Bool) → eqb c.mark m ≡ b → DecidingCorrection cs m (suc n) (cond b (higher_of l c) l)
  next l h true q = replaced l h (eqb-true _ _ q)
  next l h false q = passed_by l h (eqb-false _ _ q)

-- what `highest_of` answers is the correction that decides
pub deciding_is : (cs : List Correction) (m n : ℕ) → DecidingCorrection cs m n (highest_of cs m n)
unfolding highest_of
deciding_is cs m zero = none refl (λ k h. absurd (not-suc-le-zero h))
deciding_is cs m (suc n) = next cs m n (highest_of cs m n) (deciding_is cs m n) (eqb (correction_at cs n).mark m) refl

-- the final price is the one that document 01 describes
pub final_price-is : (ms : List Mark) (cs : List Correction) (m : ℕ) → FinalPrice ms cs m (final_of ms cs m)
unfolding final_of
final_price-is ms cs m = by_deciding (highest_of cs m (length cs)) (deciding_is cs m (length cs))
  where
    by_deciding : (l : Highest) → DecidingCorrection cs m (length cs) l → FinalPrice ms cs m (or_today l (mark_at ms m).today)
    by_deciding l (none e h) = uncorrected h (rw e)
    by_deciding l (highest k hk nk e max) = corrected k hk nk (rw e) max

-- and where no two corrections clash there is no other
module _ (ms : List Mark) (cs : List Correction) (apart : Apart cs) (m : ℕ) where
  pub one_final : {p q : ℕ} → FinalPrice ms cs m p → FinalPrice ms cs m q → p ≡ q
  one_final (uncorrected h e) (uncorrected g f) = sym e ∙ f
  one_final (uncorrected h e) (corrected k hk nk f max) = absurd (h k hk nk)
  one_final (corrected k hk nk e max) (uncorrected g f) = absurd (g k hk nk)
  one_final (corrected j hj nj e maxj) (corrected k hk nk f maxk) =
      let number : (correction_at cs j).number ≡ (correction_at cs k).number = omega (arith, maxj k hk nk, maxk j hj nj) in
      sym e ∙ one_price (correction_at cs j) (correction_at cs k) (apart j k hj hk) number ∙ f

-- the same corrections, in another order or more often
module _ (ms : List Mark) (cs ds : List Correction) (to : AllIn cs ds) (back : AllIn ds cs) where
  moved : (m p : ℕ) → FinalPrice ms ds m p → FinalPrice ms cs m p
  moved m p (uncorrected h e) = uncorrected (λ k hk q. let (j, hj, r) = to k hk in h j hj (ap (λ (c : Correction). c.mark) r ∙ q)) e
  moved m p (corrected k hk nk e max) =
      let (i, hi, q) = back k hk in
      corrected i hi (ap (λ (c : Correction). c.mark) q ∙ nk) (ap (λ (c : Correction). c.price) q ∙ e)
      (λ j hj nj.
      let (b, hb, r) = to j hj in
      let x = max b hb (ap (λ (c : Correction). c.mark) r ∙ nj) in
      let u = ap (λ (c : Correction). c.number) q in
      let v = ap (λ (c : Correction). c.number) r in
      omega arith)

  pub same_finals : Apart cs → final_of ms cs ≡ final_of ms ds
  same_finals apart =
      fun_ext (λ m. one_final ms cs apart m (final_price-is ms cs m) (moved m (final_of ms ds m) (final_price-is ms ds m)))
