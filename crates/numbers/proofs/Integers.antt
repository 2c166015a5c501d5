-- Integers as differences of two naturals: an integer expression is read off as a pair of natural ones, and what is left is arithmetic of
-- naturals, which omega does.
use Rattle.std.proofs.Common.{◌≡◌, ℕ, zero, suc, ◌+◌, ◌-◌, ◌*◌, ◌<◌, ◌≤◌, Bool, true, false, cond, not, T, ltb, ℤ, pos, negsuc, ◌+ℤ◌, ◌-ℤ◌, ◌*ℤ◌, neg_ℤ, nat_abs, ap, arith, ltb→lt, nltb→le}
use lib.IntN.{sub_ℕ}
use Rattle.numbers.specs.Nearness.{Near}

abbrev pub Differ : ℤ → ℕ → ℕ → Type 0
Differ (pos n) x y = n + y ≡ x
Differ (negsuc n) x y = x + suc n ≡ y

-- z is x - y
pub record Is (z : ℤ) (x y : ℕ) : Type 0 where
  pub differ : Differ z x y

pub is_nat : (n : ℕ) → Is (pos n) n 0
is_nat n = omega arith

pub is_sub : (a b : ℕ) → Is (sub_ℕ a b) a b
is_sub a b = go (ltb a b) (ltb→lt a b) (nltb→le a b)
  where
    go : (t : Bool) → (T t → a < b) → (T (not t) → b ≤ a) → Is (cond t (negsuc (b - suc a)) (pos (a - b))) a b
    go true h k = let l : a < b = h tt in omega arith
    go false h k = let l : b ≤ a = k tt in omega arith

-- the same number, in other words
pub is_as : {z : ℤ} {x y : ℕ} (x' y' : ℕ) → Is z x y → x + y' ≡ x' + y → Is z x' y'
is_as {z = pos n} x' y' h e = omega arith
is_as {z = negsuc n} x' y' h e = omega arith

pub is_add : {z w : ℤ} {x y x' y' : ℕ} → Is z x y → Is w x' y' → Is (z +ℤ w) (x + x') (y + y')
is_add {z = pos a} {w = pos b} h k = omega arith
is_add {z = pos a} {w = negsuc b} h k = is_as _ _ (is_sub a (suc b)) (omega arith)
is_add {z = negsuc a} {w = pos b} h k = is_as _ _ (is_sub b (suc a)) (omega arith)
is_add {z = negsuc a} {w = negsuc b} h k = omega arith

pub is_neg : {z : ℤ} {x y : ℕ} → Is z x y → Is (neg_ℤ z) y x
is_neg {z = pos zero} h = omega arith
is_neg {z = pos (suc n)} h = omega arith
is_neg {z = negsuc n} h = omega arith

pub is_minus : {z w : ℤ} {x y x' y' : ℕ} → Is z x y → Is w x' y' → Is (z -ℤ w) (x + y') (y + x')
is_minus h k = is_add h (is_neg k)

-- a natural factor
pub is_times : (k : ℕ) {z : ℤ} {x y : ℕ} → Is z x y → Is (pos k *ℤ z) (k * x) (k * y)
is_times k {z = pos n} {x} {y} h = rw (← h.differ) (omega arith)
is_times k {z = negsuc n} {x} {y} h = is_as _ _ (is_neg (is_nat (k * suc n))) (rw (← h.differ) (omega arith))

pub is_mul : {z w : ℤ} {x y x' y' : ℕ} → Is z x y → Is w x' y' → Is (z *ℤ w) (x * x' + y * y') (x * y' + y * x')
is_mul {z = pos a} {x} {y} h k = is_as _ _ (is_times a k) (rw (← h.differ) (omega arith))
is_mul {z = negsuc a} {w = pos b} h k = is_as _ _ (is_neg (is_nat (suc a * b))) (rw (← h.differ, ← k.differ) (omega arith))
is_mul {z = negsuc a} {w = negsuc b} h k = rw (← h.differ, ← k.differ) (omega arith)

-- one pair names one number
pub is_unique : {z w : ℤ} {x y : ℕ} → Is z x y → Is w x y → z ≡ w
is_unique {z = pos a} {w = pos b} h k = ap pos (omega arith)
is_unique {z = pos a} {w = negsuc b} h k = absurd (omega arith)
is_unique {z = negsuc a} {w = pos b} h k = absurd (omega arith)
is_unique {z = negsuc a} {w = negsuc b} h k = ap negsuc (omega arith)

-- the absolute value
pub is_abs : {z : ℤ} {x y e : ℕ} → Is z x y → Near x y e → nat_abs z ≤ e
is_abs {z = pos n} h k = omega arith
is_abs {z = negsuc n} h k = omega arith

-- back: a bound on the absolute value, as nearness
pub abs_near : {z : ℤ} {x y e : ℕ} → Is z x y → nat_abs z ≤ e → Near x y e
abs_near {z = pos n} h k = omega arith
abs_near {z = negsuc n} h k = omega arith

pub is_diff : (a b : ℕ) → Is (pos a -ℤ pos b) a b
is_diff a b = is_as _ _ (is_minus (is_nat a) (is_nat b)) (omega arith)

pub is-over : (k : ℕ) {z : ℤ} {x y : ℕ} → Is z x y → Is (z *ℤ pos k) (x * k) (y * k)
is-over k h = is_as _ _ (is_mul h (is_nat k)) (omega arith)

-- a negative factor turns the pair
pub is_turned : (k : ℕ) {z : ℤ} {x y : ℕ} → Is z x y → Is (negsuc k *ℤ z) (suc k * y) (suc k * x)
is_turned k h = is_as _ _ (is_mul {z = negsuc k} {x = 0} {y = suc k} (record { differ = omega arith }) h) (omega arith)

-- ---- laws that lib.IntN lacks, each read off by pairs

abbrev pub above : ℤ → ℕ
above (pos n) = n
above (negsuc n) = 0

abbrev pub below : ℤ → ℕ
below (pos n) = 0
below (negsuc n) = suc n

pub is_self : (z : ℤ) → Is z (above z) (below z)
is_self (pos n) = omega arith
is_self (negsuc n) = omega arith

-- two numbers are equal whose pairs balance
pub is_equal : {z w : ℤ} {x y x' y' : ℕ} → Is z x y → Is w x' y' → x + y' ≡ x' + y → z ≡ w
is_equal h k e = is_unique (is_as _ _ h e) k

pub *ℤ-+ℤ : (a b c : ℤ) → a *ℤ (b +ℤ c) ≡ a *ℤ b +ℤ a *ℤ c
*ℤ-+ℤ a b c =
    is_equal (is_mul (is_self a) (is_add (is_self b) (is_self c)))
    (is_add (is_mul (is_self a) (is_self b)) (is_mul (is_self a) (is_self c))) (omega arith)

pub +ℤ-*ℤ : (a b c : ℤ) → (a +ℤ b) *ℤ c ≡ a *ℤ c +ℤ b *ℤ c
+ℤ-*ℤ a b c =
    is_equal (is_mul (is_add (is_self a) (is_self b)) (is_self c))
    (is_add (is_mul (is_self a) (is_self c)) (is_mul (is_self b) (is_self c))) (omega arith)

pub *ℤ-assoc : (a b c : ℤ) → a *ℤ b *ℤ c ≡ a *ℤ (b *ℤ c)
*ℤ-assoc a b c =
    is_equal (is_mul (is_mul (is_self a) (is_self b)) (is_self c)) (is_mul (is_self a) (is_mul (is_self b) (is_self c))) (omega arith)
