-- Below 16 the shift divides by 2 ^ month, as the definition does, and from 16 on both say no.
use Rattle.std.proofs.Common.{arith}
use Rattle.std.proofs.lemmas.Bool.Decides.{nat_tests}
use Rattle.products.specs.Products.{has_month}
use Rattle.products.proofs.table.has_month.Goals as goal

pub returns-then-month-lt16 : goal.returns-then-month-lt16
unfolding has_month
returns-then-month-lt16 c = grind (arith, nat_tests)

pub returns-else-month-lt16 : goal.returns-else-month-lt16
unfolding has_month
returns-else-month-lt16 c = grind (arith, nat_tests)
