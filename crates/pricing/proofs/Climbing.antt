-- The ladder's rungs follow each other, and fit.
use mathlib.Core.Path.{◌≡◌, sym, ◌∙◌}
use Prim.Native.Nat.{ℕ, zero, suc, ◌+◌, ◌*◌, ◌≤◌}
use native.Mathlib.Nat.{mul-le-mul, le_trans, le_refl, mul-le-mul_right}
use native.Mathlib.Numerals.{add-one}
use native.Mathlib.Omega.{arith}
use lib.Dec.{lit≤}
use Rattle.numbers.specs.Rounding.{nearest}
use Rattle.numbers.proofs.Rounding.{nearest_mono}
use Rattle.products.specs.Products.{price_limit}
use Rattle.pricing.specs.Ladder.{first_factor, annuity, bracket}
use Rattle.pricing.specs.Value.{scale, bond_divisor}
use Rattle.pricing.specs.Rungs.{rung_at, next_of, Low}
use Rattle.pricing.specs.declared.ladder.Rung.{Rung}
use Rattle.pricing.proofs.Factors.{factor-first, factor_next, annuity-none, annuity_next}
use Rattle.pricing.proofs.Bounds.{scale_positive, first_cap, factor_cap, annuity_cap}

-- the first rung
pub first_rung : (p : ℕ) {r : ℕ} → r ≡ first_factor scale (bond_divisor p) → record { first = r; v = r; sum = r } ≡ rung_at p 1
unfolding rung_at
first_rung p e =
    let v = sym (factor-first scale (bond_divisor p)) in
    let sum : first_factor scale (bond_divisor p) ≡ annuity scale (bond_divisor p) 1 =
    sym (annuity_next scale (bond_divisor p) 0 ∙ omega (arith, annuity-none scale (bond_divisor p), factor-first scale (bond_divisor p))) in
    rw (e, ← v, ← sum)

-- a rung more
pub next_rung : (p : ℕ) {k : ℕ} → 1 ≤ k → next_of (rung_at p k) ≡ rung_at p (k + 1)
unfolding rung_at next_of
next_rung p {k} h = go k h
  where
    go : (k : ℕ) → 1 ≤ k → next_of (rung_at p k) ≡ rung_at p (k + 1)
    go zero h = absurd (omega arith)
    go (suc j) h = rw (add-one (suc j), annuity_next scale (bond_divisor p) (suc j), factor_next scale (bond_divisor p) j)

-- every rung fits
pub rung_low : {p k : ℕ} → p ≤ price_limit → k ≤ 40 → Low (rung_at p k)
unfolding rung_at scale
rung_low {p} {k} h g =
    record {
      first = first_cap h;
      v = factor_cap h k;
      sum = le_trans (annuity_cap h k) (mul-le-mul_right scale g);
    }

pub product_low : {l : Rung} → Low l → l.v * l.first ≤ 100_000_000 * 100_000_000
product_low s = mul-le-mul s.v s.first

pub next_v_low : {l : Rung} {w : ℕ} → Low l → w ≡ nearest (l.v * l.first) scale → w ≤ 100_000_000
unfolding scale nearest
next_v_low s e = rw e (le_trans (nearest_mono _ (100_000_000 * 100_000_000) scale scale scale_positive (product_low s) (le_refl scale)) (lit≤ tt))

pub rung_low_as : (p k : ℕ) {l : Rung} → l ≡ rung_at p k → p ≤ price_limit → k ≤ 40 → Low l
rung_low_as p k e h g = rw e (rung_low h g)

-- the last rung gives the bracket
pub rung_bracket : (p n x : ℕ) {r : ℕ} {l : Rung} → l ≡ rung_at p n → r ≡ x * l.sum + 100 * l.v → r ≡ bracket scale x n (bond_divisor p)
unfolding bracket rung_at
rung_bracket p n x e is = is ∙ rw e

-- a bracket times its face
pub face_low : {face coupon b : ℕ} {l : Rung} → face ≤ 100_000 → coupon ≤ 3 → Low l → b ≡ coupon * l.sum + 100 * l.v → b * face ≤ 22_000_000_000 * 100_000
face_low h k s e = mul-le-mul {n₂ = 22_000_000_000} (omega (arith, mul-le-mul k s.sum, s.v)) h
