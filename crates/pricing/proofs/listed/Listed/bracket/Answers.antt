-- By the terms, and a bond's by checks 6 and 7; the ladder's last rung gives the bracket (`rung_bracket`).
use Rattle.std.proofs.Common.{◌≡◌, Err, arith, rules}
use Rattle.pricing.proofs.Climbing.{rung_bracket}
use Rattle.pricing.proofs.SideBySide.{one_price, ladder_low}
use Rattle.pricing.proofs.listed.Listed.bracket.Goals as goal

pub returns-in_err-check_price-in-Bond : goal.returns-in_err-check_price-in-Bond
returns-in_err-check_price-in-Bond c =
    let e : c.from_residual.result ≡ Err c.in_err-check_price-in-Bond.field-0.0 = search rules in
    rw (e, c.in-Bond.is) (c.in_err-check_price-in-Bond.ensures.answer _)

pub ladders-requires : goal.ladders-requires
ladders-requires c =
    let m = rw c.in-Bond.is at c.args.self.modest in
    (search rules, (search rules, (m.2, m.3, one_price c.in_ok-check_price-in-Bond.ensures.low)))

pub bracket_of-requires : goal.bracket_of-requires
bracket_of-requires c =
    let m = rw c.in-Bond.is at c.args.self.modest in
    (m.1, ladder_low (one_price c.in_ok-check_price-in-Bond.ensures.low) m.3 c.ladders.ensures 0 (omega arith))

pub returns-in_ok-check_price-in-Bond : goal.returns-in_ok-check_price-in-Bond
returns-in_ok-check_price-in-Bond c =
    rw (c.in-Bond.is, rung_bracket _ _ _ (c.ladders.ensures.entry 0 (omega arith)) c.bracket_of.ensures) (c.in_ok-check_price-in-Bond.ensures.answer _)
