-- The laws of values worked side by side.
use Rattle.std.proofs.Common.{◌≡◌, ℕ, zero, suc, ◌+◌, ◌*◌, ◌<◌, ◌≤◌, List, [], ◌∷◌, length, get_or, refl, ap, ◌∙◌, arith, Bool, true, false, leb, eqb, ◌%◌}
use Rattle.std.proofs.lemmas.Bool.Decides.{nat_tests}
use Rattle.numbers.specs.Rounding.{nearest}
use Rattle.numbers.specs.Folds.{some, Filled}
use Rattle.products.specs.Products.{price_limit}
use Rattle.products.specs.declared.table.Terms.TheVariants.{Bond}
use Rattle.products.specs.declared.table.Code.{Code}
use Rattle.numbers.proofs.Filled.{table_filled, filled-table}
use Rattle.numbers.proofs.Searches.{some_clear}
use Rattle.pricing.specs.Calls.{given, check, lanes, or_zero, value_of, values_or_zero}
use Rattle.pricing.specs.Checking.{is_refused, fails_at, Passes}
use Rattle.pricing.specs.Value.{scale, value_by}
use Rattle.pricing.specs.Rungs.{rung_at, next_of, Low, no_rung, bond_of, Within}
use Rattle.pricing.specs.declared.ladder.Rung.{Rung}
use Rattle.pricing.proofs.Climbing.{next_rung, rung_low, rung_bracket}

-- the ladders at k
module _ {n : ℕ} {k : ℕ} {l : List Rung} where
  pub ladder_low : {p : List ℕ} → Within n p → k ≤ 40 → Filled no_rung (λ i. rung_at (get_or p i 0) k) n l → (i : ℕ) → i < n → Low (get_or l i no_rung)
  ladder_low w h a i g = rw (a.entry i g) (rung_low (w.lane i g) h)

  pub all_next : (p : List ℕ) → 1 ≤ k → Filled no_rung (λ i. rung_at (get_or p i 0) k) n l → {r : List Rung} → Filled no_rung (λ i. next_of (get_or l i no_rung)) n r
      → Filled no_rung (λ i. rung_at (get_or p i 0) (k + 1)) n r
  all_next p h a b = record { entry = λ i g. b.entry i g ∙ ap next_of (a.entry i g) ∙ next_rung (get_or p i 0) h }

-- and their last rungs give a bond's values
pub bonds_are : (face coupon k : ℕ) {n : ℕ} (p : List ℕ) {l : List Rung} {v : List ℕ} → Filled no_rung (λ i. rung_at (get_or p i 0) k) n l → Filled 0 (λ i. bond_of face coupon (get_or l i no_rung)) n v
    → Filled 0 (λ i. value_by (Bond face coupon k) (get_or p i 0)) n v
unfolding value_by
bonds_are face coupon k p a b =
    record { entry = λ i g. b.entry i g ∙ ap (λ (x : ℕ). nearest (x * face) scale) (rung_bracket (get_or p i 0) k coupon (a.entry i g) refl) }

-- one price, and two
pub one_price : {p : ℕ} → p ≤ price_limit → Within 1 (p ∷ [])
one_price {p} h = record { few = omega arith; lane = go }
  where
    go : (i : ℕ) → i < 1 → get_or (p ∷ []) i 0 ≤ price_limit
    go zero l = h
    go (suc i) l = absurd (omega arith)

pub two_prices : {p q : ℕ} → p ≤ price_limit → q ≤ price_limit → Within 2 (p ∷ q ∷ [])
two_prices {p} {q} h k = record { few = omega arith; lane = go }
  where
    go : (i : ℕ) → i < 2 → get_or (p ∷ q ∷ []) i 0 ≤ price_limit
    go zero l = h
    go (suc zero) l = k
    go (suc (suc i)) l = absurd (omega arith)

-- a price that does not fail passes, and where none fails all do
pub passes_at : (tick p : ℕ) → fails_at tick p ≡ false → Passes tick p
passes_at tick p = go (leb p price_limit) (eqb (p % tick) 0) refl refl
  where
    go : (low whole : Bool) → leb p price_limit ≡ low → eqb (p % tick) 0 ≡ whole → is_refused (check 6 low (check 7 whole (given 0))) ≡ false → Passes tick p
    go true true l w e = record { low = grind (arith, nat_tests); answer = λ a. rw (l, w) refl }
    go true false l w e = absurd (let z : ◌≡◌ {A = ℕ} 0 1 = cc in omega arith)
    go false whole l w e = absurd (let z : ◌≡◌ {A = ℕ} 0 1 = cc in omega arith)

pub all_pass : (tick : ℕ) (p : List ℕ) → some (λ i. fails_at tick (get_or p i 0)) lanes ≡ false → (i : ℕ) → i < lanes → Passes tick (get_or p i 0)
all_pass tick p e i h = passes_at tick (get_or p i 0) (some_clear (λ i. fails_at tick (get_or p i 0)) lanes i e h)

-- each lane's value
pub values_at : (code : Code) (p : List ℕ) (k : ℕ) → k < lanes → get_or (values_or_zero code p) k 0 ≡ or_zero (value_of code (get_or p k 0))
unfolding values_or_zero
values_at code p k h = (table_filled {d = 0} {f = λ i. or_zero (value_of code (get_or p i 0))} {n = lanes} refl).entry k h

-- a list of two
pub pair_of : {f : ℕ → ℕ} {r : List ℕ} → length r ≡ 2 → Filled 0 f 2 r → r ≡ f 0 ∷ f 1 ∷ []
pair_of n a = filled-table n a
