use Rattle.std.proofs.Common.{arith}
use Rattle.std.proofs.lemmas.Bool.Decides.{nat_tests}
use Rattle.products.specs.Products.{price_limit}
use Rattle.pricing.proofs.contract.check_price.Goals as goal

pub returns-then-p-gt-PRICE_LIMIT-clause-answer : goal.returns-then-p-gt-PRICE_LIMIT-clause-answer
unfolding price_limit
returns-then-p-gt-PRICE_LIMIT-clause-answer c a = grind (arith, nat_tests)

pub returns-then-off_tick-clause-answer : goal.returns-then-off_tick-clause-answer
unfolding price_limit
returns-then-off_tick-clause-answer c a = grind (arith, nat_tests)

pub returns-clause-answer : goal.returns-clause-answer
unfolding price_limit
returns-clause-answer c a = grind (arith, nat_tests)

pub returns-clause-low : goal.returns-clause-low
unfolding price_limit
returns-clause-low c = omega arith
