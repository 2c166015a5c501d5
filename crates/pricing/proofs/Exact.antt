-- The exact bracket times q^n is a whole number.
use mathlib.Core.Path.{◌≡◌, ap}
use Prim.Native.Nat.{ℕ, zero, suc, ◌+◌, ◌*◌, ◌^◌, ◌<◌}
use native.Mathlib.Nat.{mul-pos, one-le-pow, pow-suc}
use native.Mathlib.Omega.{arith}
use Rattle.numbers.specs.Fractions.{Fraction, ◌raised◌, added_to, Same}
use Rattle.numbers.proofs.Sums.{added_none, added_next, added_proper}
use Rattle.pricing.specs.Ladder.{base, exact_factor, exact_bracket, whole_annuity, whole_bracket}
use Rattle.pricing.proofs.Factors.{whole-none, whole_next}

module _ (q : ℕ) (low : 0 < q) where
  abbrev exact_annuity : ℕ → Fraction
  exact_annuity n = added_to n (λ k. exact_factor q raised k)

  annuity-proper : (n : ℕ) → 0 < (exact_annuity n).den
  annuity-proper n = added_proper n (λ k. exact_factor q raised k) (λ k. one-le-pow k q low)

  -- v + v² + .. + v^n, times q^n
  annuity-whole : (n : ℕ) → (exact_annuity n).num * q ^ n ≡ whole_annuity q n * (exact_annuity n).den
  annuity-whole zero = rw ((added_none (λ k. exact_factor q raised k)).0, whole-none q) (omega arith)
  annuity-whole (suc n) =
      let (e, d) = added_next n (λ k. exact_factor q raised k) in
      rw (e, d, whole_next q n, pow-suc q n)
      (step (exact_annuity n).num (exact_annuity n).den (whole_annuity q n) (q ^ n) (base ^ suc n) (annuity-whole n))
    where
      step : (N D A Q B : ℕ) → N * Q ≡ A * D → (N * (Q * q) + B * D) * (Q * q) ≡ (A * q + B) * (D * (Q * q))
      step N D A Q B h = omega (arith, ap (λ (t : ℕ). t * (Q * q * q)) h)

  -- c times (v + v² + .. + v^n) + 100 times v^n, times q^n
  pub bracket-whole : (c n : ℕ) → Same (exact_bracket c n q) (record { num = whole_bracket c n q; den = q ^ n })
  unfolding exact_bracket whole_bracket
  bracket-whole c n =
      record {
        proper = (mul-pos (annuity-proper n) (one-le-pow n q low), one-le-pow n q low);
        same = step (exact_annuity n).num (exact_annuity n).den (whole_annuity q n) (q ^ n) (base ^ n) (annuity-whole n);
      }
    where
      step : (N D A Q B : ℕ) → N * Q ≡ A * D → (c * N * Q + 100 * B * D) * Q ≡ (c * A + 100 * B) * (D * Q)
      step N D A Q B h = omega (arith, ap (λ (t : ℕ). c * t * Q) h)
