-- Arrays made by a function of the index whose calls leave the function as it was.
use Rattle.std.proofs.Common.{◌≡◌, ℕ, zero, suc, ◌+◌, ◌<◌, ◌≤◌, List, [], ◌∷◌, get_or, refl, ◌∙◌, ⊎_elim, eq-or-lt_of_le, arith}
use denote.Param.Members.{Mut, Called}
use Rattle.std.specs.Fn.{Takes}
use Rattle.std.specs.Array.{IsFromFnResult, IsFromFnResultFrom, index_steps}
use Rattle.std.specs.Iterator.{CallableAtEachTurn}
use Rattle.std.specs.List.{FoldsTo}
use Rattle.numbers.specs.Folds.{Filled}

module _ {F B : Type 0} (g : Mut F (ℕ × Unit {0}) B) {f : F} {n : ℕ} where
  -- it may be called at every index below n
  pub callable : ((i : ℕ) (y : B) (f' : F) → Called g f (i, tt) y f' → f' ≡ f) → ((i : ℕ) → i < n → Takes g f (i, tt))
      → CallableAtEachTurn (index_steps n) (λ p x q. (y : B) × Called g p (x, tt) y q) (λ p x. Takes g p (x, tt)) 0 f
  callable keeps takes = record { at = λ xs t q x u ys fold step. let e : q ≡ f = kept xs f q refl fold in rw (e, step.1) (takes t step.0) }
    where
      kept : (xs : List ℕ) (p q : F) → p ≡ f → FoldsTo (λ p x q. (y : B) × Called g p (x, tt) y q) p xs q → q ≡ f
      kept [] p q e h = cc
      kept (x ∷ xs) p q e (j, (y, call), rest) = let call' : Called g f (x, tt) y j = rw e at call in kept xs j q (keeps x y j call') rest

  -- what it gives stands at each index
  pub made : {v : ℕ → B} → ((i : ℕ) (y : B) (f' : F) → Called g f (i, tt) y f' → (y ≡ v i) × (f' ≡ f)) → (d : B) {r : List B} → IsFromFnResult g f r n → Filled d v n r
  made {v} gives d {r} m = record { entry = λ i h. from n 0 f refl (omega arith) m.each i (omega arith) h }
    where
      from : (c k : ℕ) (p : F) → p ≡ f → k + c ≡ n → IsFromFnResultFrom g p r k c → (i : ℕ) → k ≤ i → i < n → get_or r i d ≡ v i
      from zero k p e s u i h l = absurd (omega arith)
      from (suc c) k p e s (q, y, at, call, rest) i h l =
          let call' : Called g f (k, tt) y q = rw e at call in
          let w : (y ≡ v k) × (q ≡ f) = gives k y q call' in
          ⊎_elim (λ (x : k ≡ i). rw (← x) (at.1 d ∙ w.0)) (λ (x : k < i). from c (k + 1) q w.1 (omega arith) rest i (omega arith) l) (eq-or-lt_of_le h)
