-- A product that is found is a line of the table (`modest_line`).
use Rattle.std.proofs.Common.{◌≡◌, Some, None, Err, rules}
use Rattle.faults.specs.declared.fault.Fault.TheVariants.{UnlistedCode}
use Rattle.products.specs.Products.{find}
use Rattle.pricing.proofs.TableLines.{modest_line}
use Rattle.pricing.proofs.listed.Listed.of.Goals as goal

pub returns-in_err-product : goal.returns-in_err-product
returns-in_err-product c f =
    let e : c.from_residual.result ≡ Err UnlistedCode = search rules in
    let none : find c.args.code ≡ None = search rules in
    rw (e, none)

pub invariant_of-result : goal.invariant_of-result
invariant_of-result c =
    let found : find c.args.code ≡ Some c.in_ok-product.product = search rules in
    let line = modest_line c.args.code found in
    record { modest = line.terms; low = line.tick }

pub returns : goal.returns
returns c f = let found : find c.args.code ≡ Some c.in_ok-product.product = search rules in rw found
