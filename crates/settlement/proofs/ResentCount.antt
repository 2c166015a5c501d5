-- Of the same corrections, however often they stand there, the resent counts differ as the lengths do.
use mathlib.Core.Path.{◌≡◌, refl, sym, ap, ◌∙◌, fun_ext}
use mathlib.Core.Bool.{Bool, true, false}
use mathlib.Core.List.{List}
use Prim.Native.Nat.{ℕ, ◌+◌}
use native.Mathlib.Omega.{arith}
use lib.Dec.{eqb}
use lib.ListN.{length}
use Rattle.numbers.specs.Folds.{some, count}
use Rattle.dayfile.specs.Records.{correction_at}
use Rattle.settlement.specs.Prices.{AllIn}
use Rattle.checks.specs.Corrections.{resent_of}
use Rattle.dayfile.specs.declared.records.Correction.{Correction}
use Rattle.numbers.proofs.Searches.{some_clear, clear_some}
use Rattle.numbers.proofs.Counting.{bears, different_and_repeated, ceiling, below-ceiling}

number_at : List Correction → ℕ → ℕ
number_at cs i = (correction_at cs i).number

module _ (cs ds : List Correction) (to : AllIn cs ds) (back : AllIn ds cs) where
  bears_less : (v : ℕ) (xs ys : List Correction) → AllIn ys xs → some (λ k. eqb v (correction_at xs k).number) (length xs) ≡ false → some (λ k. eqb v (correction_at ys k).number) (length ys) ≡ false
  bears_less v xs ys w h =
      clear_some (λ k. eqb v (correction_at ys k).number) (length ys)
      (λ k hk. let (i, hi, e) = w k hk in rw (← e) (some_clear (λ k. eqb v (correction_at xs k).number) (length xs) i h hi))

  same-bears : (v : ℕ) → some (λ k. eqb v (correction_at cs k).number) (length cs) ≡ some (λ k. eqb v (correction_at ds k).number) (length ds)
  same-bears v = go (some (λ k. eqb v (correction_at cs k).number) (length cs)) refl (some (λ k. eqb v (correction_at ds k).number) (length ds)) refl
    where
      go : (a : Bool) → some (λ k. eqb v (correction_at cs k).number) (length cs) ≡ a → (b : Bool) → some (λ k. eqb v (correction_at ds k).number) (length ds) ≡ b
          → some (λ k. eqb v (correction_at cs k).number) (length cs) ≡ some (λ k. eqb v (correction_at ds k).number) (length ds)
      go false e b f = e ∙ sym (bears_less v cs ds back e)
      go true e true f = e ∙ sym f
      go true e false f = bears_less v ds cs to f ∙ sym f

  -- the same corrections, however often: the resent counts differ as the lengths do
  pub same_numbers : length cs + resent_of ds ≡ length ds + resent_of cs
  unfolding number_at
  same_numbers =
      let top : ℕ = ceiling (number_at cs) (length cs) + ceiling (number_at ds) (length ds) in
      let of-cs = different_and_repeated (number_at cs) top (length cs) (λ i h. let b = below-ceiling (number_at cs) (length cs) i h in omega arith) in
      let of-ds = different_and_repeated (number_at ds) top (length ds) (λ i h. let b = below-ceiling (number_at ds) (length ds) i h in omega arith) in
      let same : count (bears (number_at cs) (length cs)) top ≡ count (bears (number_at ds) (length ds)) top = ap (λ t. count t top) (fun_ext same-bears) in
      omega arith
