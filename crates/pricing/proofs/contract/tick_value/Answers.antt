-- The next price is within the limit and has no lower value (`value_by_rises`), so nothing is cut off by the subtraction.
use Rattle.std.proofs.Common.{◌≡◌, ℕ, ◌+◌, ◌-◌, ◌<◌, ◌≤◌, leb, Err, ◌∙◌, le-leb, arith, rules}
use borrow.Author.Tests.{lt-leb}
use Rattle.products.specs.Products.{price_limit}
use Rattle.products.specs.declared.table.Terms.{Terms}
use Rattle.pricing.specs.Value.{value_by}
use Rattle.pricing.specs.Calls.{Answer, given, refused, check, tick_value_of}
use Rattle.pricing.proofs.Rise.{value_by_rises}
use Rattle.pricing.proofs.contract.tick_value.Goals as goal

-- the answer after check 15
abbrev answer : ℕ → Terms → ℕ → Answer
answer p t tick = check 15 (leb (p + tick) price_limit) (given (value_by t (p + tick) - value_by t p))

above : (p : ℕ) (t : Terms) (tick : ℕ) → price_limit < p + tick → refused 15 0 ≡ answer p t tick
above p t tick h = rw (lt-leb (p + tick) price_limit h)

within : (p : ℕ) (t : Terms) (tick : ℕ) → p + tick ≤ price_limit → given (value_by t (p + tick) - value_by t p) ≡ answer p t tick
within p t tick h = rw (le-leb (p + tick) price_limit h)

pub returns-in_err-product : goal.returns-in_err-product
unfolding tick_value_of
returns-in_err-product c =
    let e : c.from_residual.result ≡ Err c.in_err-product.field-0.0 = search rules in
    rw e (c.in_err-product.ensures _)

pub returns-in_err-check_price : goal.returns-in_err-check_price
unfolding tick_value_of
returns-in_err-check_price c =
    let e : c.from_residual-in_err-check_price.result ≡ Err c.in_err-check_price.field-0.0 = search rules in
    rw e (c.in_err-check_price.ensures.answer _ ∙ c.in_ok-product.ensures _)

pub overflow_add-next : goal.overflow_add-next
unfolding price_limit
overflow_add-next c = omega (arith, c.in_ok-check_price.ensures.low, c.in_ok-product.product.low)

pub returns-then-next-gt-PRICE_LIMIT : goal.returns-then-next-gt-PRICE_LIMIT
unfolding tick_value_of price_limit
returns-then-next-gt-PRICE_LIMIT c =
    above c.args.p c.in_ok-product.product.terms _ c.if-next-gt-PRICE_LIMIT.true ∙ c.in_ok-check_price.ensures.answer _ ∙ c.in_ok-product.ensures _

pub two_at-requires : goal.two_at-requires
unfolding price_limit
two_at-requires c = (c.in_ok-product.product.modest, c.in_ok-check_price.ensures.low, c.if-next-gt-PRICE_LIMIT.false)

pub overflow_sub-result : goal.overflow_sub-result
unfolding price_limit
overflow_sub-result c = rw c.two_at.ensures (value_by_rises _ (omega arith) c.if-next-gt-PRICE_LIMIT.false)

pub returns : goal.returns
unfolding tick_value_of price_limit
returns c =
    rw c.two_at.ensures
    (within c.args.p c.in_ok-product.product.terms _ c.if-next-gt-PRICE_LIMIT.false ∙ c.in_ok-check_price.ensures.answer _ ∙ c.in_ok-product.ensures _)
