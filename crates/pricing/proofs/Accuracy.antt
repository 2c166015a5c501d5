-- How far a value lies from the exact one: by the terms, and by the product.
use Rattle.std.proofs.Common.{Some}
use mathlib.Core.Path.{◌≡◌, ap}
use mathlib.Core.Bool.{Bool, true, false, ◌||◌}
use Prim.Native.Nat.{ℕ, ◌+◌, ◌*◌, ◌/◌, ◌%◌, ◌≤◌, ◌<◌}
use native.Mathlib.Nat.{mul-le-mul_left, mul-pos, one-le-pow, div-add-mod'}
use native.Mathlib.Omega.{arith}
use lib.Dec.{lit≤, T, leb, eqb, leb→le, eqb→eq}
use Rattle.numbers.specs.Rounding.{nearest}
use Rattle.numbers.specs.Nearness.{Near}
use lib.IntN.{ℤ, pos, nat_abs, ◌*ℤ◌, ◌-ℤ◌}
use Rattle.numbers.specs.Fractions.{◌minus◌, ◌times◌, Within}
use Rattle.numbers.proofs.Rounding.{nearest_near}
use Rattle.numbers.proofs.Nearness.{near_scale, near_cancel, near_as, near_then}
use Rattle.numbers.proofs.Fractions.{Close, close_more, close_rounded, close_whole, multiple_within}
use Rattle.products.specs.Products.{price_limit, products, find, same_code}
use Rattle.pricing.specs.Value.{scale, bill_dividend, bill_divisor, bond_divisor, value_by, exact_by, exact_of}
use Rattle.pricing.specs.Accuracy.{twice_distance, number_in, accuracy_figures, accuracy_of}
use Rattle.products.specs.declared.table.Code.{Code}
use Rattle.products.specs.declared.table.Product.{Product}
use Rattle.products.specs.declared.table.Terms.{Terms}
use Rattle.products.specs.declared.table.Terms.TheVariants.{Bill, Bond, CashRate}
use Rattle.pricing.proofs.Distance.{ladder_distance}
use Rattle.products.proofs.Finding.{Every, of_found, found-code}
use Rattle.pricing.proofs.Bounds.{scale_positive, bond_divisor_lem, bill_divisor_lem}
use Rattle.pricing.proofs.Answers.{Listed, exact-of}

-- a bracket b within l / k units of the exact one, x / Q, and then the rounding of b times face
bracket_close : (D k l b x Q face a : ℕ) → 0 < D → 0 < k → 0 < Q → Near (k * (b * Q)) (k * (D * x)) (l * Q)
    → 1000 * (D * k) + 2000 * (l * face) ≤ a * (D * k) → Close 1000 a (nearest (b * face) D) (record { num = x * face; den = Q })
bracket_close D k l b x Q face a hD hk hQ near room =
    record {
      proper = hQ;
      near =
          near_cancel (D * k) (mul-pos hD hk)
          (near_as (near_then (near_scale (1000 * (k * Q)) (nearest_near (b * face) D hD)) (p₁ k b Q face) (near_scale (2000 * face) near))
          (p₀ D k Q (nearest (b * face) D)) (p₂ D k x face) (p₃ D k l Q face a room));
    }
  where
    p₀ : (D k Q w : ℕ) → D * k * (2 * 1000 * (w * Q)) ≡ 1000 * (k * Q) * (2 * (w * D))
    p₀ D k Q w = omega arith

    p₁ : (k b Q face : ℕ) → 1000 * (k * Q) * (2 * (b * face)) ≡ 2000 * face * (k * (b * Q))
    p₁ k b Q face = omega arith

    p₂ : (D k x face : ℕ) → 2000 * face * (k * (D * x)) ≡ D * k * (2 * 1000 * (x * face))
    p₂ D k x face = omega arith

    p₃ : (D k l Q face a : ℕ) → 1000 * (D * k) + 2000 * (l * face) ≤ a * (D * k)
        → 1000 * (k * Q) * D + 2000 * face * (l * Q) ≤ D * k * (a * Q)
    p₃ D k l Q face a h = omega (arith, mul-le-mul_left Q h)

-- the accuracy figure a is large enough for these terms and this tick: a test that is computed
unfoldable pub Room : Terms → ℕ → ℕ → Type 0
Room (Bill face days) tick a = T (leb 1000 a)
Room (Bond face c n) tick a = T (leb 1 n) × T (leb (1000 * (scale * 2) + 2000 * (twice_distance c n * face)) (a * (scale * 2)))
Room (CashRate cents) tick a = T (leb 1000 a || eqb (cents * tick % 100) 0)

-- where the tick's cents are whole, so are the price's
whole_cents : (cents tick p : ℕ) → cents * tick % 100 ≡ 0 → p % tick ≡ 0 → cents * p ≡ cents * tick / 100 * (p / tick) * 100
whole_cents cents tick p h k = core cents tick p (p / tick) (cents * tick / 100) (omega (arith, div-add-mod' p tick)) (omega arith)
  where
    core : (cents tick p d e : ℕ) → p ≡ d * tick → cents * tick ≡ e * 100 → cents * p ≡ e * d * 100
    core cents tick p d e h k = rw h (omega (arith, ap (λ (t : ℕ). t * d) k))

-- by the terms, at a price on the tick
pub terms_close : (t : Terms) (tick a : ℕ) {p : ℕ} → Room t tick a → p ≤ price_limit → p % tick ≡ 0 → Close 1000 a (value_by t p) (exact_by t p)
unfolding value_by exact_by Room
terms_close (Bill face days) tick a {p} r l h =
    close_more (leb→le 1000 a r) (close_rounded 1000 (bill_dividend face) (bill_divisor days p) (bill_divisor_lem days p))
terms_close (Bond face c n) tick a {p} r l h =
    bracket_close scale 2 (twice_distance c n) _ _ _ face a scale_positive (lit≤ tt) (one-le-pow n (bond_divisor p) (omega (arith, bond_divisor_lem l)))
    (ladder_distance scale c n (bond_divisor p) scale_positive (leb→le 1 n r.0) (bond_divisor_lem l).0)
    (leb→le (1000 * (scale * 2) + 2000 * (twice_distance c n * face)) (a * (scale * 2)) r.1)
terms_close (CashRate cents) tick a {p} r l h = go (leb 1000 a) (eqb (cents * tick % 100) 0) (leb→le 1000 a) (eqb→eq (cents * tick % 100) 0) r
  where
    go : (b d : Bool) → (T b → 1000 ≤ a) → (T d → cents * tick % 100 ≡ 0) → T (b || d) → Close 1000 a (nearest (cents * p) 100) (record { num = cents * p; den = 100 })
    go true d kb kd r = close_more (kb tt) (close_rounded 1000 (cents * p) 100 (lit≤ tt))
    go false true kb kd r =
        close_more (omega arith) (close_whole 1000 (cents * p) 100 (cents * tick / 100 * (p / tick)) (lit≤ tt) (whole_cents cents tick p (kd tt) h))
    go false false kb kd r = absurd r

-- every product's accuracy figure is large enough
Roomy : Product → Type 0
Roomy product = (previous final : ℕ) → Room product.terms product.tick (accuracy_of product.code previous final)

all_roomy : Every Roomy products
unfolding Roomy Room products scale accuracy_of accuracy_figures number_in same_code
all_roomy = ((λ p f. tt), ((λ p f. tt), ((λ p f. tt), ((λ p f. (tt, tt)), ((λ p f. (tt, tt)), ((λ p f. (tt, tt)), tt))))))

pub product_close : (code : Code) {product : Product} → find code ≡ Some product → (previous final : ℕ) {p : ℕ} → Listed product p
    → Close 1000 (accuracy_of code previous final) (value_by product.terms p) (exact_by product.terms p)
unfolding find Roomy
product_close code {product} f previous final h =
    terms_close product.terms product.tick _ (rw (← (found-code code f)) (of_found Roomy products code all_roomy f previous final)) h.within h.on_tick

-- lots of a difference of two values
pub product_accurate : (code : Code) (previous final : ℕ) {m n : ℕ} {product : Product} → find code ≡ Some product → Listed product previous → Listed product final
    → value_by product.terms previous ≡ m → value_by product.terms final ≡ n → (lots : ℤ)
    → Within (pos 1000 *ℤ (lots *ℤ (pos n -ℤ pos m))) (pos 1000 times lots times (exact_of code final minus exact_of code previous))
    (accuracy_of code previous final * nat_abs lots)
product_accurate code previous final f h k e g lots =
    rw (exact-of code previous f, exact-of code final f, ← e, ← g)
    (multiple_within 1000 _ _ _ _ _ (product_close code f previous final k) (product_close code f previous final h) lots)
