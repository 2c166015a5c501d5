-- One pass over the corrections finds the number and the price of the highest-numbered one of each mark.
use mathlib.Core.Path.{◌≡◌, refl, sym, ap, ◌∙◌}
use mathlib.Core.Bool.{Bool, true, false, cond}
use mathlib.Core.List.{List}
use Prim.Native.Nat.{ℕ, suc, ◌+◌, ◌≤◌, ◌<◌}
use native.Mathlib.Numerals.{add-one}
use native.Mathlib.Omega.{arith}
use lib.Dec.{eqb, leb}
use lib.ListN.{length, get_or, set, replicate}
use borrow.Author.Tests.{eq-eqb, ne_eqb, le-leb, lt-leb, eqb-true, eqb-false}
use Rattle.numbers.specs.Folds.{Filled}
use Rattle.dayfile.specs.Limits.{file_limits}
use Rattle.dayfile.specs.Records.{correction_at}
use Rattle.settlement.specs.Prices.{Highest, NoneYet, Numbered, higher_of, highest_of, or_today, final_of}
use Rattle.settlement.specs.SettlingSteps.{today_of}
use Rattle.dayfile.specs.declared.records.Mark.{Mark}
use Rattle.dayfile.specs.declared.records.Correction.{Correction}
use Rattle.numbers.proofs.Filled.{filled_all, filled-set}

-- the number that a correction must reach: 0 where there is none yet
abbrev number_of : Highest → ℕ
number_of NoneYet = 0
number_of (Numbered n p) = n

higher_number : (l : Highest) (c : Correction) → number_of (higher_of l c) ≡ cond (leb (number_of l) c.number) c.number (number_of l)
higher_number NoneYet c = rw (le-leb 0 c.number (omega arith))
higher_number (Numbered n p) c = go (leb n c.number)
  where
    go : (b : Bool) → number_of (cond b (Numbered c.number c.price) (Numbered n p)) ≡ cond b c.number n
    go true = refl
    go false = refl

higher_price : (l : Highest) (c : Correction) (t : ℕ) → or_today (higher_of l c) t ≡ cond (leb (number_of l) c.number) c.price (or_today l t)
higher_price NoneYet c t = rw (le-leb 0 c.number (omega arith))
higher_price (Numbered n p) c t = go (leb n c.number)
  where
    go : (b : Bool) → or_today (cond b (Numbered c.number c.price) (Numbered n p)) t ≡ cond b c.price p
    go true = refl
    go false = refl

-- each mark's number and price after the first k corrections
abbrev number_at : List Correction → ℕ → ℕ → ℕ
number_at cs k m = number_of (highest_of cs m k)

abbrev price_at : List Mark → List Correction → ℕ → ℕ → ℕ
price_at ms cs k m = or_today (highest_of cs m k) (today_of ms m)

pub record Standing (ms : List Mark) (cs : List Correction) (n k : ℕ) (numbers prices : List ℕ) : Type 0 where
  pub number : Filled 0 (number_at cs k) n numbers
  pub price : Filled 0 (price_at ms cs k) n prices

pub standing_none : (ms : List Mark) (cs : List Correction) {n : ℕ} {prices : List ℕ}
    → n ≤ file_limits.marks → Filled 0 (today_of ms) n prices → Standing ms cs n 0 (replicate file_limits.marks 0) prices
unfolding highest_of
standing_none ms cs h p =
    record {
      number = record { entry = λ m l. (filled_all {f = number_at cs 0} file_limits.marks 0 (λ i. refl)).entry m (omega arith) };
      price = record { entry = p.entry };
    }

module _ (cs : List Correction) (k : ℕ) where
  of_other : (m : ℕ) → ((correction_at cs k).mark ≡ m → ⊥) → highest_of cs m (suc k) ≡ highest_of cs m k
  unfolding highest_of
  of_other m e = rw (ne_eqb (correction_at cs k).mark m e)

  of_named : (m : ℕ) → (correction_at cs k).mark ≡ m → highest_of cs m (suc k) ≡ higher_of (highest_of cs m k) (correction_at cs k)
  unfolding highest_of
  of_named m e = rw (eq-eqb (correction_at cs k).mark m e)

module _ (ms : List Mark) (cs : List Correction) (k : ℕ) {n : ℕ} {numbers prices : List ℕ} where
  -- a correction of no mark of the file
  pub standing_same : {c : Correction} → c ≡ correction_at cs k → n ≤ c.mark → Standing ms cs n k numbers prices → Standing ms cs n (k + 1) numbers prices
  standing_same {c} e h s =
      let other : (m : ℕ) → m < n → highest_of cs m k ≡ highest_of cs m (suc k) = λ m l. sym (of_other cs k m (λ q. let w = ap (λ (x : Correction). x.mark) e in omega arith)) in
      rw add-one
      (record {
        number = record { entry = λ m l. s.number.entry m l ∙ ap number_of (other m l) };
        price = record { entry = λ m l. s.price.entry m l ∙ ap (λ x. or_today x (today_of ms m)) (other m l) };
      })

  module _ {c : Correction} (e : c ≡ correction_at cs k) (h : c.mark < n) (s : Standing ms cs n k numbers prices) where
    highest_other : (m : ℕ) → (m ≡ c.mark → ⊥) → highest_of cs m (suc k) ≡ highest_of cs m k
    highest_other m d = of_other cs k m (λ z. d (sym z ∙ ap (λ (x : Correction). x.mark) (sym e)))

    highest_here : highest_of cs c.mark (suc k) ≡ higher_of (highest_of cs c.mark k) c
    highest_here = of_named cs k c.mark (ap (λ (x : Correction). x.mark) (sym e)) ∙ ap (higher_of (highest_of cs c.mark k)) (sym e)

    -- a correction that takes the place of those before it
    pub standing_taken : n ≤ length numbers → n ≤ length prices → get_or numbers c.mark 0 ≤ c.number
        → Standing ms cs n (k + 1) (set numbers c.mark c.number) (set prices c.mark c.price)
    standing_taken few-n few-p up =
        let l = highest_of cs c.mark k in
        let test : leb (number_of l) c.number ≡ true = le-leb _ _ (rw (s.number.entry c.mark h) at up) in
        let number : c.number ≡ number_at cs (suc k) c.mark = rw (highest_here, higher_number l c, test) in
        let price : c.price ≡ price_at ms cs (suc k) c.mark = rw (highest_here, higher_price l c (today_of ms c.mark), test) in
        rw add-one
        (record {
          number = filled-set {g = number_at cs (suc k)} (omega arith) number (λ m d. ap number_of (highest_other m d)) s.number;
          price = filled-set {g = price_at ms cs (suc k)} (omega arith) price (λ m d. ap (λ x. or_today x (today_of ms m)) (highest_other m d)) s.price;
        })

    -- a correction with a lower number
    pub standing_kept : c.number < get_or numbers c.mark 0 → Standing ms cs n (k + 1) numbers prices
    standing_kept down =
        rw add-one
        (record {
          number = record { entry = λ m i. s.number.entry m i ∙ sym (number m (eqb m c.mark) refl) };
          price = record { entry = λ m i. s.price.entry m i ∙ sym (price m (eqb m c.mark) refl) };
        })
      where
        test : leb (number_of (highest_of cs c.mark k)) c.number ≡ false
        test = lt-leb _ _ (rw (s.number.entry c.mark h) at down)

        number : (m : ℕ) (t : Bool) → eqb m c.mark ≡ t → number_at cs (suc k) m ≡ number_at cs k m
        number m true q = rw (eqb-true m c.mark q, highest_here, higher_number (highest_of cs c.mark k) c, test)
        number m false q = ap number_of (highest_other m (eqb-false m c.mark q))

        price : (m : ℕ) (t : Bool) → eqb m c.mark ≡ t → price_at ms cs (suc k) m ≡ price_at ms cs k m
        price m true q = rw (eqb-true m c.mark q, highest_here, higher_price (highest_of cs c.mark k) c (today_of ms c.mark), test)
        price m false q = ap (λ x. or_today x (today_of ms m)) (highest_other m (eqb-false m c.mark q))

-- after all corrections the prices are the final ones
pub standing_final : (ms : List Mark) (cs : List Correction) {n k : ℕ} {numbers prices : List ℕ} → Standing ms cs n k numbers prices → k ≡ length cs → Filled 0 (final_of ms cs) n prices
unfolding final_of
standing_final ms cs s e = record { entry = rw e at s.price.entry }
