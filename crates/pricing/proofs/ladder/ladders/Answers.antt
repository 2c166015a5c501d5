use Rattle.std.proofs.Common.{◌≡◌, arith, rules}
use Rattle.pricing.specs.Rungs.{no_rung}
use Rattle.pricing.proofs.Made.{callable, made}
use Rattle.pricing.proofs.SideBySide.{ladder_low, all_next}
use Rattle.pricing.proofs.ladder.ladders.Goals as goal

pub loop-init : goal.loop-init
loop-init g c = made _ (λ i y f' k. search rules) no_rung c.from_fn-l.ensures.items

pub from_fn-l-requires-in-loop : goal.from_fn-l-requires-in-loop
from_fn-l-requires-in-loop g c =
    let s = c.requires in
    (search rules, callable _ (λ i y f' k. search rules) (λ i h. (search rules, (h, ladder_low s.2 (omega arith) c.loop.invariant i h))))

pub loop-preserved : goal.loop-preserved
loop-preserved g c = all_next c.args.p (omega arith) c.loop.invariant (made _ (λ i y f' k. search rules) no_rung c.from_fn-l-in-loop.ensures.items)

pub returns : goal.returns
returns g c = let e : c.loop.counter ≡ c.args.halves = omega arith in rw e at c.loop.invariant
