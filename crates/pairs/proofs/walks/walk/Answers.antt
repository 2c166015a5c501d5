use Rattle.std.proofs.Common.{◌≡◌, suc, ◌+◌, ◌-◌, ◌*◌, ◌%◌, get_or, sym, ◌∙◌, arith}
use Rattle.numbers.proofs.Chain.{by_one}
use Rattle.pairs.specs.Trees.Ends.{empty, same}
use Rattle.pairs.specs.Trees.Walk.{here}
use Rattle.pairs.specs.Walks.{root_of, rest_of}
use Rattle.pairs.proofs.Trees.{leads_start, leads_on}
use Rattle.pairs.proofs.walks.walk.Goals as goal

pub root_of-at-requires : goal.root_of-at-requires
root_of-at-requires c = (c.requires.2.rooted, c.requires.2.limited)

pub loop-k-init : goal.loop-k-init
loop-k-init c =
    let x = c.key_at-x.ensures in (
      rw (by_one rest_of c.rest_of-rest.ensures x, by_one (root_of c.args.roots) c.root_of-at.ensures.0 x) leads_start,
      c.from-k.ensures,
      omega (arith, c.from-k.ensures, c.requires.1.filled c.root_of-at.result),
      omega (arith, c.root_of-at.ensures.1),
    )

pub key_at-requires : goal.key_at-requires
key_at-requires c = omega (arith, c.requires.0, c.loop-k.invariant.2, c.loop-k-test.true)

pub returns-then-key_at-x : goal.returns-then-key_at-x
returns-then-key_at-x c =
    let at = c.loop-k in
    let e : get_or c.args.place.now at.at 0 ≡ suc (at.k - 1) = omega (arith, at.invariant.1, c.loop-k-test.true) in
    (at.invariant.0.onward (here (same e (sym c.key_at.ensures ∙ c.if-key_at-x.true ∙ c.key_at-x.ensures))), at.invariant.3)

pub loop-k-smaller : goal.loop-k-smaller
loop-k-smaller c =
    let at = c.loop-k in
    let e : get_or c.args.place.now at.at 0 ≡ suc (at.k - 1) = omega (arith, at.invariant.1, c.loop-k-test.true) in
    omega (arith, c.requires.1.rising at.at (at.k - 1) e, at.invariant.3)

pub loop-k-preserved : goal.loop-k-preserved
loop-k-preserved c =
    let at = c.loop-k in
    let x = c.key_at-x.ensures in
    let e : get_or c.args.place.now at.at 0 ≡ suc (at.k - 1) = omega (arith, at.invariant.1, c.loop-k-test.true) in (
      leads_on e (λ q. c.if-key_at-x.false (c.key_at.ensures ∙ q ∙ sym x)) at.invariant.0,
      c.from-k-in-loop-k.ensures,
      omega (arith, c.from-k-in-loop-k.ensures, c.requires.1.filled (c.args.roots + 2 * (at.k - 1) + at.rest % 2)),
      omega (arith, c.loop-k-test.true, at.invariant.2),
    )

pub returns : goal.returns
returns c =
    let at = c.loop-k in
    (at.invariant.0.onward (here (empty (sym at.invariant.1 ∙ c.loop-k-test.false))), at.invariant.3)
