-- The sizes of amounts and totals, and what the arithmetic of a loop asks and gives.
use mathlib.Core.Path.{◌≡◌, ◌∙◌}
use mathlib.Core.List.{List}
use Prim.Native.Nat.{ℕ, zero, suc, ◌*◌, ◌≤◌, ◌<◌}
use native.Mathlib.Nat.{mul-le-mul}
use native.Mathlib.Omega.{arith}
use lib.ListN.{length}
use mir.Syntax.{w64}
use mir.Val.{to_z, of_z}
use lib.IntN.{ℤ, nat_abs, ◌*ℤ◌}
use Rattle.products.specs.declared.table.Currency.{Currency}
use Rattle.products.specs.declared.table.Currency.TheVariants.{Aud, Nzd}
use Rattle.dayfile.specs.Limits.{lots_limit}
use Rattle.numbers.specs.Folds.{sum}
use Rattle.dayfile.specs.Records.{position_at}
use Rattle.settlement.specs.Settling.{amount_of, keep_of}
use Rattle.settlement.specs.SettlingSteps.{Payable, Bounded, amount_cap, change_cap}
use Rattle.numbers.specs.Integers.{entry_of}
use Rattle.dayfile.specs.declared.records.Position.{Position}
use Rattle.numbers.proofs.Signed.{size-sum, size_mul, back_small}

-- a product of bounded numbers
pub product_small : (x y : ℤ) → nat_abs x ≤ lots_limit → nat_abs y ≤ change_cap → nat_abs (x *ℤ y) ≤ amount_cap
product_small x y h k = rw (size_mul x y) (mul-le-mul h k)

pub small_as : {x y : ℤ} → x ≡ y → nat_abs y ≤ amount_cap → nat_abs x ≤ amount_cap
small_as e h = rw e h

-- a sum of n bounded numbers
pub sum-small : (f : ℕ → ℤ) (n : ℕ) → ((i : ℕ) → i < n → nat_abs (f i) ≤ amount_cap) → nat_abs (sum f n) ≤ n * amount_cap
sum-small f zero b = omega arith
sum-small f (suc n) b =
    omega (arith, size-sum (sum f n) (f n), sum-small f n (λ i h. b i (omega arith)), b n (omega arith))

pub keep_small : (w z : Currency) (x : ℤ) → nat_abs (keep_of w z x) ≤ nat_abs x
keep_small Aud Aud x = omega arith
keep_small Aud Nzd x = omega arith
keep_small Nzd Aud x = omega arith
keep_small Nzd Nzd x = omega arith

module _ (ps : List Position) (a : List ℤ) (pay : Payable ps) (bound : Bounded a) where
  pub amount-small : (i : ℕ) → i < length ps → nat_abs (amount_of ps (entry_of a) i) ≤ amount_cap
  unfolding amount_of
  amount-small i h = product_small (position_at ps i).lots (entry_of a (position_at ps i).mark) (pay.lots i h) (bound.entries (position_at ps i).mark)

  module _ (i : ℕ) (h : i < length ps) {p : Position} (q : p ≡ position_at ps i) where
    lots_back : to_z w64 (of_z w64 p.lots) ≡ p.lots
    lots_back = rw q (back_small _ (omega (arith, pay.lots i h)))

    entry_back : to_z w64 (of_z w64 (entry_of a p.mark)) ≡ entry_of a p.mark
    entry_back = back_small _ (omega (arith, bound.entries p.mark))

    pub amount_gives : {r : ℤ} → r ≡ to_z w64 (of_z w64 p.lots) *ℤ to_z w64 (of_z w64 (entry_of a p.mark)) → r ≡ amount_of ps (entry_of a) i
    unfolding amount_of
    amount_gives f = f ∙ rw (lots_back, entry_back, ← q)
