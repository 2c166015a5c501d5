-- By the terms, then by checks 6 and 7.
use Rattle.std.proofs.Common.{◌≡◌, Err, arith, rules}
use Rattle.pricing.proofs.SideBySide.{one_price}
use Rattle.pricing.proofs.listed.Listed.value.Goals as goal

pub returns-in_err-check_price-in-Bill : goal.returns-in_err-check_price-in-Bill
returns-in_err-check_price-in-Bill c =
    let e : c.from_residual.result ≡ Err c.in_err-check_price-in-Bill.field-0.0 = search rules in
    rw e (c.in_err-check_price-in-Bill.ensures.answer _)

pub bill_at-requires : goal.bill_at-requires
bill_at-requires c = (rw c.in-Bill.is at c.args.self.modest, c.in_ok-check_price-in-Bill.ensures.low)

pub returns-in_ok-check_price-in-Bill : goal.returns-in_ok-check_price-in-Bill
returns-in_ok-check_price-in-Bill c = rw (c.in-Bill.is, c.bill_at.ensures) (c.in_ok-check_price-in-Bill.ensures.answer _)

pub returns-in_err-check_price-in-Bond : goal.returns-in_err-check_price-in-Bond
returns-in_err-check_price-in-Bond c =
    let e : c.from_residual-in_err-check_price-in-Bond.result ≡ Err c.in_err-check_price-in-Bond.field-0.0 = search rules in
    rw e (c.in_err-check_price-in-Bond.ensures.answer _)

pub bonds_at-requires : goal.bonds_at-requires
bonds_at-requires c = (search rules, (search rules, (rw c.in-Bond.is at c.args.self.modest, one_price c.in_ok-check_price-in-Bond.ensures.low)))

pub returns-in_ok-check_price-in-Bond : goal.returns-in_ok-check_price-in-Bond
returns-in_ok-check_price-in-Bond c = rw (c.in-Bond.is, c.bonds_at.ensures.entry 0 (omega arith)) (c.in_ok-check_price-in-Bond.ensures.answer _)

pub returns-in_err-check_price-in-CashRate : goal.returns-in_err-check_price-in-CashRate
returns-in_err-check_price-in-CashRate c =
    let e : c.from_residual-in_err-check_price-in-CashRate.result ≡ Err c.in_err-check_price-in-CashRate.field-0.0 = search rules in
    rw e (c.in_err-check_price-in-CashRate.ensures.answer _)

pub cash_at-requires : goal.cash_at-requires
cash_at-requires c = (rw c.in-CashRate.is at c.args.self.modest, c.in_ok-check_price-in-CashRate.ensures.low)

pub returns-in_ok-check_price-in-CashRate : goal.returns-in_ok-check_price-in-CashRate
returns-in_ok-check_price-in-CashRate c = rw (c.in-CashRate.is, c.cash_at.ensures) (c.in_ok-check_price-in-CashRate.ensures.answer _)
