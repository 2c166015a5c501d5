-- The test of a month finds exactly the product's months.
use mathlib.Core.Path.{◌≡◌, refl}
use mathlib.Core.Bool.{Bool, true, false, cond}
use mathlib.Core.List.Memᴰ
use mathlib.Core.List.{[], ◌∷◌, Memᴰ}
use mathlib.Core.Logic.{⊎_elim, ◌↔◌}
use Prim.Native.Nat.{ℕ, zero, suc, ◌<◌, ◌/◌, ◌%◌, ◌^◌}
use native.Mathlib.Nat.{not-suc-le-zero, eq-or-lt_of_le, le_of_suc-le-suc}
use lib.Dec.{ltb, eqb}
use borrow.Author.Tests.{ltb-true}
use Rattle.numbers.proofs.Truth.{and_left}
use Rattle.products.specs.Products.{has_month, months_below, months_of}
use Rattle.products.specs.declared.table.Product.{Product}

module _ (product : Product) (m : ℕ) where
  listed : (n : ℕ) → m < n → has_month product m ≡ true → Memᴰ m (months_below n product)
  unfolding months_below
  listed zero h e = absurd (not-suc-le-zero h)
  listed (suc n) h e =
      ⊎_elim (λ (s : m ≡ n). Memᴰ.append_right (months_below n product) (rw (← s, e) (Memᴰ.head refl)))
      (λ (l : m < n). Memᴰ.append_left (cond (has_month product n) (n ∷ []) []) (listed n l e)) (eq-or-lt_of_le (le_of_suc-le-suc h))

  here : (n : ℕ) (b : Bool) → has_month product n ≡ b → Memᴰ m (cond b (n ∷ []) []) → has_month product m ≡ true
  here n true e i = rw (Memᴰ.eq_of_singleton i) e
  here n false e i = absurd (Memᴰ.not-nil i)

  passes : (n : ℕ) → Memᴰ m (months_below n product) → has_month product m ≡ true
  unfolding months_below
  passes zero i = absurd (Memᴰ.not-nil i)
  passes (suc n) i = ⊎_elim (passes n) (here n (has_month product n) refl) (Memᴰ.append_cases (months_below n product) i)

  below : has_month product m ≡ true → m < 16
  unfolding has_month
  below e = ltb-true m 16 (and_left (ltb m 16) (eqb (product.months / 2 ^ m % 2) 1) e)

  pub month_exactly : (has_month product m ≡ true) ↔ Memᴰ m (months_of product)
  month_exactly = ((λ e. listed 16 (below e) e), passes 16)
