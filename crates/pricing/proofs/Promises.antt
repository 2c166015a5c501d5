-- What is promised of one contract. Open this file first: each law is stated here in the terms of specs/, its argument stands in the file it cites.
use Rattle.std.proofs.Common.{Some}
use mathlib.Core.List.{[], ◌∷◌, map}
use mathlib.Core.Path.{◌≡◌, refl, ap, ◌∙◌}
use Prim.Native.Nat.{ℕ, suc, ◌+◌, ◌*◌, ◌%◌, ◌^◌, ◌≤◌, ◌<◌}
use native.Mathlib.Nat.{add-mod_right}
use native.Mathlib.Omega.{arith}
use lib.Dec.{lit≤}
use lib.IntN.{ℤ, pos, nat_abs, ◌*ℤ◌, ◌-ℤ◌}
use Rattle.numbers.specs.Rounding.{nearest}
use Rattle.numbers.specs.Nearness.{Near}
use Rattle.numbers.specs.Fractions.{scaled, ◌minus◌, ◌times◌, Within, Same}
use Rattle.numbers.proofs.Rounding.{nearest-scale, half_up}
use Rattle.products.specs.Products.{price_limit, YT, XT, XX, products, same_code, find}
use Rattle.pricing.specs.Prices.{yield_at}
use Rattle.numbers.specs.Sums.{sum_to}
use Rattle.pricing.specs.Ladder.{base, factor, annuity, bracket, exact_bracket, whole_bracket}
use Rattle.pricing.specs.Value.{scale, bill_dividend, bill_divisor, bond_divisor, value_by, exact_by, exact_of}
use Rattle.pricing.specs.Sizes.{value_cap}
use Rattle.pricing.specs.Calls.{given, value_of, tick_value_of, bracket_of}
use Rattle.pricing.specs.Conditions.{check_number, value_checks, tick_value_checks, bracket_checks, Exactly}
use Rattle.pricing.specs.Accuracy.{twice_distance, entry, number_in, distances_in, accuracy_figures, accuracy_of}
use Rattle.products.specs.declared.table.Code.{Code}
use Rattle.products.specs.declared.table.Product.{Product}
use Rattle.products.specs.declared.table.Terms.{Terms}
use Rattle.products.specs.declared.table.Terms.TheVariants.{Bill, Bond, CashRate}
use Rattle.pricing.proofs.Distance as distance
use Rattle.pricing.proofs.Exact as exact
use Rattle.pricing.proofs.TableLines.{modest_line}
use Rattle.pricing.proofs.Bounds.{factor_cap, value_by_cap}
use Rattle.pricing.proofs.Rise.{value_by_rises}
use Rattle.pricing.proofs.Answers.{valued, gives-value, tick-valued, exact-of}
use Rattle.pricing.proofs.Accuracy.{product_accurate}
use Rattle.pricing.proofs.Refusals as refusals
use Rattle.pricing.proofs.Bonds.{bracketed, bracket_near}

-- ---- rounding

-- "Rounded" is to the nearest whole number, a half going up: the number r with r − 1/2 ≤ x / d < r + 1/2.
pub rounded : (x d : ℕ) → 0 < d → (2 * (nearest x d * d) ≤ 2 * x + d) × (2 * x < 2 * (nearest x d * d) + d)
rounded x d h = half_up x d h

-- ---- the ladder's distance

-- Over any scale D, for any n from 1, any half coupon c and any yield Y from 0, the ladder's bracket lies within the distance of the exact one.
-- Both are multiplied by q^n, with q = 2,000,000 + Y, and doubled.
pub ladder_distance : (D c n Y : ℕ) → 0 < D → 1 ≤ n
    → Near (2 * (bracket D c n (base + Y) * (base + Y) ^ n)) (2 * (D * whole_bracket c n (base + Y))) (twice_distance c n * (base + Y) ^ n)
ladder_distance D c n Y hD hn = distance.ladder_distance D c n (base + Y) hD hn (omega arith)

-- The exact bracket, c times (v + v² + .. + v^n) + 100 times v^n, is the whole number `whole_bracket` over q^n.
pub exact_bracket_lem : (c n Y : ℕ) → Same (exact_bracket c n (base + Y)) (record { num = whole_bracket c n (base + Y); den = (base + Y) ^ n })
exact_bracket_lem c n Y = exact.bracket-whole (base + Y) (omega arith) c n

-- The bracket that is given for a bond of the table lies within the distance too.
pub bracket_distance : (code : Code) (p : ℕ) {b face c n : ℕ} {product : Product} → find code ≡ Some product → product.terms ≡ Bond face c n → bracket_of code p ≡ given b
    → Near (2 * (b * bond_divisor p ^ n)) (2 * (scale * whole_bracket c n (bond_divisor p))) (twice_distance c n * bond_divisor p ^ n)
bracket_distance code p {c} {n} {product} f t e =
    let h = bracketed code p e in
    let g = h.found in
    let u = h.terms in
    let same : h.product ≡ product = cc in
    let same-c : h.coupon ≡ c = cc in
    let same-n : h.halves ≡ n = cc in
    rw (same-c, same-n) at (bracket_near code p h)

-- The distances of the table's bonds are 604, 2,550 and 5,550 units.
pub distances_are : distances_in products ≡ entry YT (2 * 604) ∷ entry XT (2 * 2_550) ∷ entry XX (2 * 5_550) ∷ []
unfolding products distances_in
distances_are = refl

-- ---- refusals

-- The checks of each call stand in the order of their numbers.
pub numbers_in_order : (map check_number value_checks ≡ 4 ∷ 6 ∷ 7 ∷ []) × (map check_number tick_value_checks ≡ 4 ∷ 6 ∷ 7 ∷ 15 ∷ []) × (map check_number bracket_checks ≡ 4 ∷ 6 ∷ 7 ∷ [])
numbers_in_order = (refl, refl, refl)

-- Each call is turned away with a number exactly where that check's condition holds and no earlier one does, and answers exactly where none holds.
pub value_exactly : (code : Code) (p : ℕ) → Exactly code p value_checks (value_of code p)
value_exactly = refusals.value_exactly

pub tick_value_exactly : (code : Code) (p : ℕ) → Exactly code p tick_value_checks (tick_value_of code p)
tick_value_exactly = refusals.tick_value_exactly

pub bracket_exactly : (code : Code) (p : ℕ) → Exactly code p bracket_checks (bracket_of code p)
bracket_exactly = refusals.bracket_exactly

-- ---- a rise

-- A higher price never has a lower value, for a bill, a bond and a cash rate contract of any terms.
pub value_rises_by : (t : Terms) {p p' : ℕ} → p ≤ p' → p' ≤ price_limit → value_by t p ≤ value_by t p'
value_rises_by = value_by_rises

-- The same for the values that are given for a code.
pub value_rises : (code : Code) {p p' m m' : ℕ} → p ≤ p' → value_of code p ≡ given m → value_of code p' ≡ given m' → m ≤ m'
value_rises code {p} {p'} l e e' =
    let h = valued code p e in
    let h' = valued code p' e' in
    let s : h'.product ≡ h.product = let f = h.found in let f' = h'.found in cc in
    rw (← h.is, ← h'.is, s) (value_by_rises h.product.terms l h'.listed.within)

-- So a tick value is what the next value has more: the subtraction of naturals in its definition cuts nothing off.
pub tick_value_adds : (code : Code) (p : ℕ) {d : ℕ} {product : Product} → find code ≡ Some product → tick_value_of code p ≡ given d
    → (m : ℕ) × (value_of code p ≡ given m) × (value_of code (p + product.tick) ≡ given (m + d))
tick_value_adds code p {product = product} f e =
    let (h, d, g) = tick-valued code p f e in
    let r = value_by_rises product.terms {p = p} {p' = p + product.tick} (omega arith) g in (
      value_by product.terms p,
      gives-value code p f h,
      gives-value code (p + product.tick) f (record { within = g; on_tick = add-mod_right p product.tick ∙ h.on_tick }) ∙ ap given (omega arith),
    )

-- ---- the exact value: the formula without any rounding

-- of a bill, and of a cash rate contract
pub exact_bill : (p : ℕ) → Same (exact_by (Bill 1_000_000 90) p) (record { num = 3_650_000_000_000_000; den = 36_500_000 + 9 * yield_at p })
unfolding exact_by bill_dividend bill_divisor
exact_bill p = record { proper = (omega arith, omega arith); same = omega arith }

pub exact_cash : (p : ℕ) → exact_by (CashRate 2_466) p ≡ record { num = 2_466 * p; den = 100 }
unfolding exact_by
exact_cash p = refl

-- of a bond: the exact bracket times face
pub exact_bond : (face c n p : ℕ) → Same (exact_by (Bond face c n) p) (scaled face (exact_bracket c n (bond_divisor p)))
unfolding exact_by bond_divisor
exact_bond face c n p =
    let s = exact_bracket_lem c n (yield_at p) in
    record { proper = (s.proper.1, s.proper.0); same = omega (arith, ap (λ (t : ℕ). t * face) s.same) }

-- of the product that a code names
pub exact_named : (code : Code) (p : ℕ) {product : Product} → find code ≡ Some product → exact_of code p ≡ exact_by product.terms p
exact_named code p f = exact-of code p f

-- ---- accuracy

-- For any lots and any two prices at which values are given: 1,000 times lots times the difference of the values lies within the product's accuracy
-- figure times the lots without their sign of 1,000 times lots times the difference of the exact values.
pub accurate : (code : Code) (previous final : ℕ) {m n : ℕ} → value_of code previous ≡ given m → value_of code final ≡ given n → (lots : ℤ)
    → Within (pos 1000 *ℤ (lots *ℤ (pos n -ℤ pos m))) (pos 1000 times lots times (exact_of code final minus exact_of code previous))
    (accuracy_of code previous final * nat_abs lots)
accurate code previous final e f lots =
    let h = valued code previous e in
    let k = valued code final f in
    let same : k.product ≡ h.product = let g = h.found in let g' = k.found in cc in
    product_accurate code previous final h.found h.listed (rw (← same) k.listed) h.is (rw (← same) k.is) lots

-- The accuracy figures of the six products, whatever the prices.
pub figures_are : (previous final : ℕ) → map (λ product. accuracy_of product.code previous final) products ≡ 1_000 ∷ 1_000 ∷ 0 ∷ 2_208 ∷ 6_100 ∷ 6_550 ∷ []
unfolding products accuracy_of accuracy_figures number_in same_code
figures_are previous final = refl

-- ---- sizes

-- Every Vk at a price within the limit is at most 100,000,000.
pub factor-small : {p : ℕ} → p ≤ price_limit → (k : ℕ) → factor scale (bond_divisor p) k ≤ 100_000_000
unfolding scale
factor-small h k = factor_cap h k

-- No power of a listed bond outgrows 32 bits: of each bond of the table, at every price up to the limit, each Vk from V1 to Vn is below 2^32.
pub factor_in_32_bits : (code : Code) (p k : ℕ) {face c n : ℕ} {product : Product} → find code ≡ Some product → product.terms ≡ Bond face c n
    → p ≤ price_limit → 1 ≤ k → k ≤ n → factor scale (bond_divisor p) k < 2 ^ 32
unfolding scale
factor_in_32_bits code p k f t h low high = omega (arith, factor_cap h k)

-- No value is above 500,000,000 cents.
pub value_cap_lem : (code : Code) (p : ℕ) {n : ℕ} → value_of code p ≡ given n → n ≤ value_cap
value_cap_lem code p e =
    let h = valued code p e in
    rw (← h.is) (value_by_cap h.listed.within h.product.terms (modest_line code h.found).terms)

-- ---- the formulas in document 01's numbers

-- A value is given for each code of the table at each price within the limit and on the tick.
pub value_given : (code : Code) {product : Product} {p : ℕ} → find code ≡ Some product → p ≤ price_limit → p % product.tick ≡ 0 → value_of code p ≡ given (value_by product.terms p)
value_given code {p = p} f l t = gives-value code p f (record { within = l; on_tick = t })

-- A bill: 3,650,000,000,000,000 divided by (36,500,000 + 9 times Y), rounded once.
pub bill_formula : (p : ℕ) → value_by (Bill 1_000_000 90) p ≡ nearest 3_650_000_000_000_000 (36_500_000 + 9 * yield_at p)
unfolding value_by bill_dividend bill_divisor
bill_formula p = rw (e (yield_at p)) (nearest-scale 10 3_650_000_000_000_000 (36_500_000 + 9 * yield_at p) (lit≤ tt))
  where
    e : (y : ℕ) → 365_000_000 + 90 * y ≡ 10 * (36_500_000 + 9 * y)
    e y = omega arith

-- A cash rate contract: 2,466 times p divided by 100, rounded.
pub cash_formula : (p : ℕ) → value_by (CashRate 2_466) p ≡ nearest (2_466 * p) 100
unfolding value_by
cash_formula p = refl

-- The ladder. V1 is 200,000,000,000,000 divided by (2,000,000 + Y), rounded.
pub first_rung : (p : ℕ) → factor scale (bond_divisor p) 1 ≡ nearest 200_000_000_000_000 (2_000_000 + yield_at p)
unfolding factor scale bond_divisor
first_rung p = refl

-- Each later Vk is V(k−1) times V1 divided by 100,000,000, rounded.
pub later_rung : (p k : ℕ)
    → factor scale (bond_divisor p) (suc (suc k)) ≡ nearest (factor scale (bond_divisor p) (suc k) * factor scale (bond_divisor p) 1) 100_000_000
unfolding factor scale
later_rung p k = refl

-- The bracket is c times (V1 + .. + Vn) plus 100 times Vn.
pub bracket_formula : (c n p : ℕ) → bracket scale c n (bond_divisor p) ≡ c * sum_to n (factor scale (bond_divisor p)) + 100 * factor scale (bond_divisor p) n
unfolding bracket annuity
bracket_formula c n p = refl

-- A bond: bracket times face divided by 100,000,000, rounded.
pub bond_formula : (face c n p : ℕ) → value_by (Bond face c n) p ≡ nearest (bracket scale c n (bond_divisor p) * face) 100_000_000
unfolding value_by scale
bond_formula face c n p = refl

-- A bond's value is the bracket that is given, times face and divided by 10^8, rounded.
pub value_by-bracket : (code : Code) (p : ℕ) {b face c n : ℕ} {product : Product} → find code ≡ Some product → product.terms ≡ Bond face c n → bracket_of code p ≡ given b
    → value_of code p ≡ given (nearest (b * face) 100_000_000)
unfolding value_by scale
value_by-bracket code p {b} {face} {c} {n} {product} f t e =
    let h = bracketed code p e in
    let g = h.found in
    let u = h.terms in
    let same : h.product ≡ product = cc in
    let same-c : h.coupon ≡ c = cc in
    let same-n : h.halves ≡ n = cc in
    let is : bracket scale c n (bond_divisor p) ≡ b = rw (← same-c, ← same-n) h.is in
    gives-value code p f (rw (← same) h.listed) ∙ ap given (rw (t, is))
