-- A single-contract call is turned away exactly by the first of its checks whose condition holds.
use Rattle.std.proofs.Common.{Option, Some, None}
use mathlib.Core.Path.{◌≡◌, refl, sym, ap, ◌∙◌}
use mathlib.Core.Bool.{Bool, true, false, not, cond}
use mathlib.Core.List.{List}
use mathlib.Core.Logic.{◌↔◌}
use Prim.Native.Nat.{ℕ, ◌+◌, ◌-◌, ◌%◌, ◌<◌, ◌∣◌}
use lib.Dec.{leb, eqb}
use Rattle.numbers.specs.Order.{Decides, Clear, pick, decision, Decision, Met, Unmet}
use Rattle.numbers.proofs.Truth.{Tells, not_both, tells_not, tells_above, tells_divides}
use Rattle.numbers.proofs.Order.{Finds, finds_whole, met_exactly, clear_exactly}
use Rattle.products.specs.Products.{price_limit, find}
use Rattle.pricing.specs.Ladder.{bracket}
use Rattle.pricing.specs.Value.{scale, bond_divisor, value_by}
use Rattle.pricing.specs.Calls.{Answer, given, refused, check, of_product, of_bond, at_price, value_of, tick_value_of, bracket_of}
use Rattle.pricing.specs.Conditions.{ContractCheck, NoProduct, NoBond, AboveLimit, OffTick, NextAboveLimit, check_number, HoldsAt, value_checks, tick_value_checks, bracket_checks, Exactly}
use Rattle.products.specs.declared.table.Code.{Code}
use Rattle.products.specs.declared.table.Product.{Product}
use Rattle.products.specs.declared.table.Terms.{Terms}
use Rattle.products.specs.declared.table.Terms.TheVariants.{Bill, Bond, CashRate}
use Rattle.products.proofs.Finding.{tells_unlisted, tells_product}

-- ---- the tests, by what a lookup found

abbrev missing : Option Product → Bool
missing (Some product) = false
missing None = true

abbrev is_bond : Terms → Bool
is_bond (Bill face days) = false
is_bond (Bond face c n) = true
is_bond (CashRate cents) = false

abbrev no_bond : Option Product → Bool
no_bond (Some product) = not (is_bond product.terms)
no_bond None = true

abbrev off_tick : Option Product → ℕ → Bool
off_tick (Some product) p = not (eqb (p % product.tick) 0)
off_tick None p = false

abbrev next_above : Option Product → ℕ → Bool
next_above (Some product) p = not (leb (p + product.tick) price_limit)
next_above None p = false

abbrev test_of : Option Product → ℕ → ContractCheck → Bool
test_of f p NoProduct = missing f
test_of f p NoBond = no_bond f
test_of f p AboveLimit = not (leb p price_limit)
test_of f p OffTick = off_tick f p
test_of f p NextAboveLimit = next_above f p

abbrev finding : Option Product → ℕ → ContractCheck → Option ℕ
finding f p c = cond (test_of f p c) (Some 0) None

-- ---- what each test tells of the code and the price

module _ (code : Code) (p : ℕ) where
  tells_no_bond : (f : Option Product) → find code ≡ f → Tells (no_bond f) ((product : Product) → find code ≡ Some product → (face c n : ℕ) → ¬ (product.terms ≡ Bond face c n))
  tells_no_bond None e =
      record { yes = λ b product g. cc; no = λ b. not_both refl b }
  tells_no_bond (Some product) e = by_terms product.terms refl
    where
      other : (t : Terms) → product.terms ≡ t → is_bond t ≡ false → (r : Product) → find code ≡ Some r → (face c n : ℕ) → ¬ (r.terms ≡ Bond face c n)
      other t d b r g face c n h =
          let same : r ≡ product = cc in
          let w : t ≡ Bond face c n = cc in
          not_both refl (rw w at b)

      by_terms : (t : Terms) → product.terms ≡ t → Tells (not (is_bond t)) ((r : Product) → find code ≡ Some r → (face c n : ℕ) → ¬ (r.terms ≡ Bond face c n))
      by_terms (Bill face days) d = record { yes = λ b. other (Bill face days) d refl; no = λ b. not_both refl b }
      by_terms (CashRate cents) d = record { yes = λ b. other (CashRate cents) d refl; no = λ b. not_both refl b }
      by_terms (Bond face c n) d = record { yes = λ b. not_both b refl; no = λ b h. h product e face c n d }

  finds : (c : ContractCheck) → Finds (HoldsAt code p c) (finding (find code) p c)
  finds NoProduct = finds_whole (missing (find code)) (tells_unlisted code missing (λ product. refl) refl)
  finds NoBond = finds_whole (no_bond (find code)) (tells_no_bond (find code) refl)
  finds AboveLimit = finds_whole (not (leb p price_limit)) (tells_above p price_limit)
  finds OffTick =
      finds_whole (off_tick (find code) p)
      (tells_product code (λ f. off_tick f p) {A = λ product. ¬ (product.tick ∣ p)} (λ product. tells_not (eqb (p % product.tick) 0) (tells_divides product.tick p)) refl)
  finds NextAboveLimit =
      finds_whole (next_above (find code) p)
      (tells_product code (λ f. next_above f p) {A = λ product. price_limit < p + product.tick} (λ product. tells_above (p + product.tick) price_limit) refl)

-- ---- the answers go by the decision

-- the refusal that a decision says, else the answer a
abbrev answer_by : Decision → Answer → Answer
answer_by (Met k i) a = refused k i
answer_by Unmet a = a

abbrev decide : Option Product → ℕ → List ContractCheck → Decision
decide f p = decision check_number (finding f p)

-- checks 6 and 7, then what follows
by_price : (b d : Bool) (a : Answer) (rest : Decision) → check 6 b (check 7 d (answer_by rest a))
    ≡ answer_by (pick (cond (not b) (Some 0) None) 6 (pick (cond (not d) (Some 0) None) 7 rest)) a
by_price true true a rest = refl
by_price true false a rest = refl
by_price false d a rest = refl

by_next : (b : Bool) (a : Answer) → check 15 b a ≡ answer_by (pick (cond (not b) (Some 0) None) 15 Unmet) a
by_next true a = refl
by_next false a = refl

-- the number asked for of the product that was found
abbrev value_in : ℕ → Option Product → ℕ
value_in p (Some product) = value_by product.terms p
value_in p None = 0

abbrev tick_value_in : ℕ → Option Product → ℕ
tick_value_in p (Some product) = value_by product.terms (p + product.tick) - value_by product.terms p
tick_value_in p None = 0

abbrev bracket_by : ℕ → Terms → ℕ
bracket_by p (Bill face days) = 0
bracket_by p (Bond face c n) = bracket scale c n (bond_divisor p)
bracket_by p (CashRate cents) = 0

abbrev bracket_in : ℕ → Option Product → ℕ
bracket_in p (Some product) = bracket_by p product.terms
bracket_in p None = 0

by_value : (f : Option Product) (p : ℕ) → of_product f (λ product. at_price product.tick p (given (value_by product.terms p))) ≡ answer_by (decide f p value_checks) (given (value_in p f))
by_value None p = refl
by_value (Some product) p = by_price (leb p price_limit) (eqb (p % product.tick) 0) (given (value_by product.terms p)) Unmet

by_tick_value : (f : Option Product) (p : ℕ)
    → of_product f (λ product. at_price product.tick p (check 15 (leb (p + product.tick) price_limit) (given (value_by product.terms (p + product.tick) - value_by product.terms p))))
    ≡ answer_by (decide f p tick_value_checks) (given (tick_value_in p f))
by_tick_value None p = refl
by_tick_value (Some product) p =
    let a = given (value_by product.terms (p + product.tick) - value_by product.terms p) in
    ap (at_price product.tick p) (by_next (leb (p + product.tick) price_limit) a)
    ∙ by_price (leb p price_limit) (eqb (p % product.tick) 0) a (pick (cond (not (leb (p + product.tick) price_limit)) (Some 0) None) 15 Unmet)

by_bracket : (f : Option Product) (p : ℕ)
    → of_product f (λ product. of_bond product.terms (λ c n. at_price product.tick p (given (bracket scale c n (bond_divisor p)))))
    ≡ answer_by (decide f p bracket_checks) (given (bracket_in p f))
by_bracket None p = refl
by_bracket (Some product) p = by_terms product.terms
  where
    by_terms : (t : Terms) → of_bond t (λ c n. at_price product.tick p (given (bracket scale c n (bond_divisor p))))
        ≡ answer_by (pick (cond (not (is_bond t)) (Some 0) None) 4
        (pick (cond (not (leb p price_limit)) (Some 0) None) 6
        (pick (cond (not (eqb (p % product.tick) 0)) (Some 0) None) 7 Unmet))) (given (bracket_by p t))
    by_terms (Bill face days) = refl
    by_terms (CashRate cents) = refl
    by_terms (Bond face c n) = by_price (leb p price_limit) (eqb (p % product.tick) 0) (given (bracket scale c n (bond_divisor p))) Unmet

-- ---- exactly

-- a call with these checks, whose answer goes by their decision
module _ (code : Code) (p : ℕ) (checks : List ContractCheck) (answer : Answer) (n : ℕ) (by : answer ≡ answer_by (decide (find code) p checks) (given n)) where
  refused_by : (d : Decision) {k i : ℕ} → answer_by d (given n) ≡ refused k i → d ≡ Met k i
  refused_by (Met k i) e = cc
  refused_by Unmet e = cc

  given_by : (d : Decision) {m : ℕ} → answer_by d (given n) ≡ given m → d ≡ Unmet
  given_by (Met k i) e = cc
  given_by Unmet e = refl

  refused_exactly : {k i : ℕ} → (answer ≡ refused k i) ↔ Decides check_number (HoldsAt code p) checks k i
  refused_exactly = (
    (λ e. (met_exactly check_number (finding (find code) p) (finds code p) checks).0 (refused_by (decide (find code) p checks) (sym by ∙ e))),
    (λ d. by ∙ ap (λ x. answer_by x (given n)) ((met_exactly check_number (finding (find code) p) (finds code p) checks).1 d)),
  )

  given_exactly : ((m : ℕ) × (answer ≡ given m)) ↔ Clear (HoldsAt code p) checks
  given_exactly = (
    (λ x. (clear_exactly check_number (finding (find code) p) (finds code p) checks).0 (given_by (decide (find code) p checks) (sym by ∙ x.1))),
    (λ h. (n, by ∙ ap (λ x. answer_by x (given n)) ((clear_exactly check_number (finding (find code) p) (finds code p) checks).1 h))),
  )

exactly : (code : Code) (p : ℕ) (checks : List ContractCheck) (answer : Answer) (n : ℕ) → answer ≡ answer_by (decide (find code) p checks) (given n) → Exactly code p checks answer
exactly code p checks answer n by = record { turned = λ k i. refused_exactly code p checks answer n by; answers = given_exactly code p checks answer n by }

module _ (code : Code) (p : ℕ) where
  pub value_exactly : Exactly code p value_checks (value_of code p)
  unfolding value_of
  value_exactly = exactly code p value_checks (value_of code p) (value_in p (find code)) (by_value (find code) p)

  pub tick_value_exactly : Exactly code p tick_value_checks (tick_value_of code p)
  unfolding tick_value_of
  tick_value_exactly = exactly code p tick_value_checks (tick_value_of code p) (tick_value_in p (find code)) (by_tick_value (find code) p)

  pub bracket_exactly : Exactly code p bracket_checks (bracket_of code p)
  unfolding bracket_of
  bracket_exactly = exactly code p bracket_checks (bracket_of code p) (bracket_in p (find code)) (by_bracket (find code) p)
