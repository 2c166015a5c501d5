-- The laws of decimal numbers.
use mathlib.Core.Path.{◌≡◌, refl, sym, ap, ◌∙◌}
use mathlib.Core.List.{[], ◌∷◌, ◌++◌}
use Prim.Native.Nat.{ℕ, zero, suc, ◌+◌, ◌*◌, ◌/◌, ◌%◌, ◌^◌, ◌≤◌, ◌<◌, max}
use native.Mathlib.Decide.{dec_lt}
use native.Mathlib.Nat.{div-lt_self, div-lt_iff_lt-mul, le-div_iff_mul-le, pow-suc}
use native.Mathlib.Omega.{arith}
use borrow.Author.Tests.{lt-ltb, le-ltb}
use lib.ListN.{length, length-append}
use lib.IntN.{ℤ, pos, negsuc, nat_abs}
use mir.Syntax.{w64}
use mir.Val.{Fits}
use Rattle.text.specs.Decimal.{digit, digits_within, decimal, signed_decimal}

-- a single digit
pub decimal_digit : (n : ℕ) → n < 10 → decimal n ≡ digit n ∷ []
unfolding decimal digits_within
decimal_digit zero h = refl
decimal_digit (suc n) h = rw (lt-ltb (suc n) 10 h)

-- any bound on the number of digits that n does not pass gives the same digits
within : (f g n : ℕ) → n ≤ f → n ≤ g → digits_within f n ≡ digits_within g n
unfolding digits_within
within zero zero n hf hg = refl
within zero (suc g) n hf hg = let e : n ≡ 0 = omega arith in rw e
within (suc f) zero n hf hg = let e : n ≡ 0 = omega arith in rw e
within (suc f) (suc g) zero hf hg = refl
within (suc f) (suc g) (suc n) hf hg =
    let s : suc n / 10 < suc n = div-lt_self (omega arith) (omega arith) in
    rw (within f g (suc n / 10) (omega arith) (omega arith))

-- a number of several digits: those of its tenth, and the last
pub decimal-more : (n : ℕ) → 10 ≤ n → decimal n ≡ decimal (n / 10) ++ (digit (n % 10) ∷ [])
unfolding decimal digits_within
decimal-more zero h = absurd (omega arith)
decimal-more (suc n) h =
    let s : suc n / 10 < suc n = div-lt_self (omega arith) (omega arith) in
    rw (le-ltb (suc n) 10 h, within n (suc n / 10) (suc n / 10) (omega arith) (omega arith))

-- ---- how many digits

pub one_digit : (n : ℕ) → n < 10 → length (decimal n) ≡ 1
one_digit n h = ap length (decimal_digit n h)

pub more_digits : (n : ℕ) → 10 ≤ n → length (decimal n) ≡ length (decimal (n / 10)) + 1
more_digits n h = ap length (decimal-more n h) ∙ length-append (decimal (n / 10)) (digit (n % 10) ∷ [])

pub some-digit : (n : ℕ) → 1 ≤ length (decimal n)
some-digit n = go (dec_lt n 10)
  where
    go : Dec (n < 10) → 1 ≤ length (decimal n)
    go (yes s) = omega (arith, one_digit n s)
    go (no s) = omega (arith, more_digits n (omega arith))

-- a number below 10 ^ (k + 1) has at most k + 1 digits
pub decimal-length : (k n : ℕ) → n < 10 ^ suc k → length (decimal n) ≤ suc k
decimal-length zero n h = rw (decimal_digit n h) (omega arith)
decimal-length (suc k) n h =
    go (dec_lt n 10) (decimal-length k (n / 10) ((div-lt_iff_lt-mul (omega arith)).1 (rw (← pow-suc) h)))
  where
    go : Dec (n < 10) → length (decimal (n / 10)) ≤ suc k → length (decimal n) ≤ suc (suc k)
    go (yes s) i = omega (arith, one_digit n s)
    go (no s) i = omega (arith, more_digits n (omega arith))

-- a u64 has at most 20 digits
pub decimal_64 : {n : ℕ} → Fits w64 n → length (decimal n) ≤ 20
decimal_64 {n} f = decimal-length 19 n (omega (arith, f.fits))

-- from 10 ^ k on a number below 10 ^ (k + 1) has k + 1 digits
digits_by_power : (k n : ℕ) → 10 ^ k ≤ n → n < 10 * 10 ^ k → length (decimal n) ≡ k + 1
digits_by_power zero n h l = one_digit n l
digits_by_power (suc k) n h l =
    let p : 10 ^ suc k ≡ 10 ^ k * 10 = pow-suc 10 k in
    let some : 0 < 10 ^ k = omega arith in
    let ten : 0 < 10 = omega arith in
    let low : 10 ^ k ≤ n / 10 = (le-div_iff_mul-le ten).1 (omega arith) in
    let high : n / 10 < 10 * 10 ^ k = (div-lt_iff_lt-mul ten).1 (omega arith) in
    omega (arith, more_digits n (omega arith), digits_by_power k (n / 10) low high)

-- 0 has as many digits as 1
pub digits_from_one : (k n : ℕ) {m : ℕ} → m ≡ max n 1 → 10 ^ k ≤ m → m < 10 * 10 ^ k → k + 1 ≡ length (decimal n)
digits_from_one k n {m} e h l = go (dec_lt n 1)
  where
    d : length (decimal m) ≡ k + 1
    d = digits_by_power k m h l

    go : Dec (n < 1) → k + 1 ≡ length (decimal n)
    go (yes z) = let i : m ≡ 1 = omega arith in omega (arith, one_digit n (omega arith), one_digit m (omega arith), d)
    go (no s) = let i : m ≡ n = omega arith in sym (rw i at d)

-- ---- signed numbers

pub some-signed : (z : ℤ) → 1 ≤ length (signed_decimal z)
unfolding signed_decimal
some-signed (pos n) = some-digit n
some-signed (negsuc n) = omega arith

-- a signed number below 10 ^ (k + 1) without its sign takes at most k + 2 bytes
pub signed-length : (k : ℕ) (z : ℤ) → nat_abs z < 10 ^ suc k → length (signed_decimal z) ≤ suc (suc k)
unfolding signed_decimal
signed-length k (pos n) h = omega (arith, decimal-length k n h)
signed-length k (negsuc n) h = omega (arith, decimal-length k (suc n) h)
