-- The laws of numbers that are written from a table of figures.
use mathlib.Core.Path.{◌≡◌, refl, sym, ap, ◌∙◌}
use mathlib.Core.List.{List, [], ◌∷◌, ◌++◌, append_assoc}
use Prim.Native.Nat.{ℕ, zero, suc, ◌+◌, ◌*◌, ◌-◌, ◌/◌, ◌%◌, ◌≤◌, ◌<◌}
use native.Mathlib.Decide.{dec_lt}
use native.Mathlib.Nat.{div-div-eq-div-mul, add-zero, zero-add, not-suc-le-zero, le_of_suc-le-suc}
use native.Mathlib.Numerals.{add-one}
use native.Mathlib.Omega.{arith}
use borrow.Author.Tests.{le-ltb}
use lib.ListN.{length, get_or, take, set, length-append}
use lib.Seq.{length-take-le}
use lib.IntN.{ℤ, pos, negsuc}
use lib.Signed.{lt_z}
use mir.Val.{bool_byte}
use Rattle.text.specs.Writing.{over}
use Rattle.text.specs.Decimal.{digit, decimal, minus_sign, signed_decimal}
use Rattle.text.specs.Table.{pairs_from, digit_pairs, first_of, second_of, figures, decimal_by, sign_of, signed_decimal_by}
use Rattle.text.proofs.Writing.{over_two, set_first, wrote_stores}
use Rattle.text.proofs.Decimals.{decimal_digit, decimal-more, one_digit, some-digit}

-- ---- how many figures

figures-length : (t : List ℕ) (k n : ℕ) → length (figures t k n) ≡ k
unfolding figures
figures-length t zero n = refl
figures-length t (suc zero) n = refl
figures-length t (suc (suc k)) n = simp length-append (omega (arith, figures-length t k (n / 100)))

pub by_length : (t : List ℕ) (n : ℕ) → length (decimal_by t n) ≡ length (decimal n)
unfolding decimal_by
by_length t n = figures-length t (length (decimal n)) n

-- ---- two digits at a time

-- a number of two digits
decimal_two : (n : ℕ) → 10 ≤ n → n < 100 → decimal n ≡ digit (n / 10) ∷ digit (n % 10) ∷ []
decimal_two n h k = rw (decimal-more n h, decimal_digit (n / 10) (omega arith))

-- a number of more: those of its hundredth, and the last two
decimal_hundreds : (n : ℕ) → 100 ≤ n → decimal n ≡ decimal (n / 100) ++ (digit (n % 100 / 10) ∷ digit (n % 100 % 10) ∷ [])
decimal_hundreds n h =
    let z : n / 100 ≡ n / 10 / 10 = sym (div-div-eq-div-mul n 10 10) in
    let x : n % 100 % 10 ≡ n % 10 = omega arith in
    let y : n % 100 / 10 ≡ n / 10 % 10 = omega arith in
    rw (x, y, z, decimal-more n (omega arith), decimal-more (n / 10) (omega arith), append_assoc)

-- ---- the figures of a number of one, of two, and of more digits

by_one : (t : List ℕ) (n : ℕ) → n < 10 → decimal_by t n ≡ second_of t n ∷ []
unfolding decimal_by figures
by_one t n h = rw (one_digit n h)

by_two : (t : List ℕ) (n : ℕ) → 10 ≤ n → n < 100 → decimal_by t n ≡ first_of t n ∷ second_of t n ∷ []
unfolding decimal_by figures
by_two t n h k = let e : n % 100 ≡ n = omega arith in rw (ap length (decimal_two n h k), e)

by_more : (t : List ℕ) (n : ℕ) → 100 ≤ n → decimal_by t n ≡ decimal_by t (n / 100) ++ (first_of t (n % 100) ∷ second_of t (n % 100) ∷ [])
unfolding decimal_by figures
by_more t n h =
    let e : length (decimal n) ≡ suc (suc (length (decimal (n / 100)))) = rw (decimal_hundreds n h) (simp length-append (omega arith)) in rw e

-- ---- the table of the pairs of digits

pair_at : (i n k : ℕ) → k < n → (get_or (pairs_from i n) (2 * k) 0 ≡ digit ((i + k) / 10)) × (get_or (pairs_from i n) (suc (2 * k)) 0 ≡ digit ((i + k) % 10))
unfolding pairs_from
pair_at i zero k h = absurd (not-suc-le-zero h)
pair_at i (suc n) zero h = rw (add-zero i) (refl, refl)
pair_at i (suc n) (suc k) h =
    let e : 2 * suc k ≡ suc (suc (2 * k)) = omega arith in
    let g : i + suc k ≡ suc i + k = omega arith in
    rw (e, g) (pair_at (suc i) n k (le_of_suc-le-suc h))

pair_of : (n : ℕ) → n < 100 → (first_of digit_pairs n ≡ digit (n / 10)) × (second_of digit_pairs n ≡ digit (n % 10))
unfolding digit_pairs
pair_of n h = let p = pair_at 0 100 n h in (rw (zero-add n) at p.0, rw add-one (rw (zero-add n) at p.1))

-- its figures are the digits
within : (k n : ℕ) → length (decimal n) ≤ k → decimal_by digit_pairs n ≡ decimal n
within zero n h = absurd (omega (arith, some-digit n))
within (suc k) n h = go (dec_lt n 10) (dec_lt n 100) (within k (n / 100))
  where
    go : Dec (n < 10) → Dec (n < 100) → (length (decimal (n / 100)) ≤ k → decimal_by digit_pairs (n / 100) ≡ decimal (n / 100)) → decimal_by digit_pairs n ≡ decimal n
    go (yes a) b i =
        let d : n % 10 ≡ n = omega arith in
        rw (by_one digit_pairs n a, (pair_of n (omega arith)).1, d, decimal_digit n a)
    go (no a) (yes b) i =
        let p = pair_of n b in rw (by_two digit_pairs n (omega arith) b, decimal_two n (omega arith) b, p.0, p.1)
    go (no a) (no b) i =
        let p = pair_of (n % 100) (omega arith) in
        let e = decimal_hundreds n (omega arith) in
        rw (by_more digit_pairs n (omega arith), e, i (omega (arith, simp length-append at (ap length e))), p.0, p.1)

pub by_pairs : (n : ℕ) → decimal_by digit_pairs n ≡ decimal n
by_pairs n = within (length (decimal n)) n (omega arith)

-- ---- writing the figures, the last first: i is the place of the next, and w the buffer when all are written

-- `rest` is still to be written, and i is the place of its last figure
pub record Left (t : List ℕ) (rest i : ℕ) (now w : List ℕ) : Type 0 where
  pub place : i + 1 ≡ length (decimal rest)
  pub buffer : over (decimal_by t rest) now ≡ w

pub left_two : {t : List ℕ} {rest i : ℕ} {now w : List ℕ} → 100 ≤ rest → i < length now → Left t rest i now w
    → (2 ≤ i) × Left t (rest / 100) (i - 2) (set (set now i (second_of t (rest % 100))) (i - 1) (first_of t (rest % 100))) w
left_two {t} {rest} {i} {now} h b l =
    let e = by_more t rest h in
    let k = by_length t rest in
    let j = by_length t (rest / 100) in
    let m : i ≡ length (decimal_by t (rest / 100)) + 1 = omega (arith, l.place, simp length-append at (ap length e)) in (
      omega (arith, some-digit (rest / 100)),
      record {
        place = omega (arith, some-digit (rest / 100));
        buffer = over_two (decimal_by t (rest / 100)) _ _ now m b ∙ ap (λ s. over s now) (sym e) ∙ l.buffer;
      },
    )

-- the first one or two, from the front
pub first-written : (t : List ℕ) (n i : ℕ) (now : List ℕ) → n < 100 → i + 1 ≡ length (decimal n) → i < length now
    → set (set now 0 (first_of t n)) i (second_of t n) ≡ over (decimal_by t n) now
first-written t n i now h e b = go (dec_lt n 10)
  where
    go : Dec (n < 10) → set (set now 0 (first_of t n)) i (second_of t n) ≡ over (decimal_by t n) now
    go (yes s) =
        let z : i ≡ 0 = omega (arith, one_digit n s) in
        rw (z, by_one t n s) (set_first now (first_of t n) (second_of t n) (omega arith))
    go (no s) =
        let z : i ≡ 1 = omega (arith, ap length (decimal_two n (omega arith) h)) in
        rw (z, by_two t n (omega arith) h) (wrote_stores (first_of t n ∷ second_of t n ∷ []) now (omega arith)).written

-- ---- signed numbers

-- 1 byte for a negative number, else 0
pub sign_size : (z : ℤ) → bool_byte (lt_z z (pos 0)) ≡ length (sign_of z)
unfolding sign_of
sign_size (pos n) = rw (le-ltb n 0 (omega arith)) refl
sign_size (negsuc n) = refl

-- a sign is none, or the minus sign
pub sign_is : (z : ℤ) {s : ℕ} → s ≡ length (sign_of z) → (s ≤ 1) × (take s (minus_sign ∷ []) ≡ sign_of z)
unfolding sign_of
sign_is (pos n) e = rw e (omega arith, refl)
sign_is (negsuc n) e = rw e (omega arith, refl)

pub sized : (t : List ℕ) (s n : ℕ) → s ≤ 1 → length (take s (minus_sign ∷ []) ++ decimal_by t n) ≡ s + length (decimal n)
sized t s n h = simp (length-append, by_length) (omega (arith, length-take-le s (minus_sign ∷ []) h))

pub signed_by_pairs : (z : ℤ) → signed_decimal_by digit_pairs z ≡ signed_decimal z
unfolding signed_decimal_by signed_decimal sign_of
signed_by_pairs (pos n) = by_pairs n
signed_by_pairs (negsuc n) = ap (λ s. minus_sign ∷ s) (by_pairs (suc n))
