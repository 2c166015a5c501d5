use Rattle.std.proofs.Common.{◌≡◌, drop, None, refl, sym, ◌∙◌, arith}
use Rattle.products.specs.declared.table.Code.{Code}
use Rattle.products.specs.Products.{products, no_product, find_in, find}
use Rattle.products.proofs.Finding.{find-here, find_next}
use Rattle.products.proofs.table.lookup.Goals as goal

find-end : (a : Code) → find_in (drop 6 products) a ≡ None
unfolding products find_in
find-end a = refl

pub loop-product-init : goal.loop-product-init
unfolding find
loop-product-init c = refl

pub returns-then-same_code : goal.returns-then-same_code
unfolding products no_product
returns-then-same_code c =
    let l = c.loop-product in
    let lines = c.lines-product-items in
    find-here lines.result l.product-index _ (rw lines.ensures c.loop-product-test.true) refl c.same_code.ensures (rw lines.ensures l.invariant) c.if-same_code.true

pub loop-product-preserved : goal.loop-product-preserved
unfolding products no_product
loop-product-preserved c =
    let l = c.loop-product in
    let lines = c.lines-product-items in
    rw (← lines.ensures)
    (find_next lines.result l.product-index _ (rw lines.ensures c.loop-product-test.true) refl c.same_code.ensures (rw lines.ensures l.invariant) c.if-same_code.false)

pub returns : goal.returns
returns c = let e : c.loop-product.product-index ≡ 6 = omega arith in sym (find-end c.args.code) ∙ (rw e at c.loop-product.invariant)
