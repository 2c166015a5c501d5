use Rattle.std.proofs.Common.{refl, arith, length-set}
use Rattle.numbers.proofs.Chain.{by_one}
use Rattle.numbers.proofs.Tables.{filled}
use Rattle.pairs.specs.Records.{earlier_of}
use Rattle.pairs.specs.Trees.{node_of}
use Rattle.pairs.proofs.Rooms.{room_for}
use Rattle.pairs.proofs.Trees.{tree_start, tree_more, latest-here}
use Rattle.pairs.proofs.walks.earlier_in.Goals as goal

pub loop-i-init : goal.loop-i-init
loop-i-init c = let p = c.requires in ((refl, refl, refl), tree_start p.1 p.2, refl)

pub walk-at-requires : goal.walk-at-requires
walk-at-requires c =
    let at = c.loop-i in
    let h = c.loop-i-test.true in (
      h,
      at.invariant.1.grown,
      rw at.invariant.0.0 (room_for at.i h c.requires.0),
    )

pub node-j-requires : goal.node-j-requires
node-j-requires c = omega (arith, c.from.ensures, c.loop-i.invariant.1.grown.filled c.walk-at.result)

pub loop-i-preserved : goal.loop-i-preserved
loop-i-preserved c =
    let at = c.loop-i in
    let w = c.walk-at.ensures in
    let h = c.loop-i-test.true in
    let is = by_one (λ k. node_of k at.i) c.node-j.ensures.0 c.from.ensures in (
      (simp length-set at.invariant.0.0, simp length-set at.invariant.0.1, simp length-set at.invariant.0.2),
      tree_more at.invariant.1 w.0 w.1 is (omega (arith, w.1, h, c.requires.0.room, at.invariant.0.0)) (omega (arith, c.node-j.ensures.1, h, c.requires.3, at.invariant.0.1)),
      rw at.invariant.2 (filled (earlier_of c.args.records.now) c.args.found.now at.i (omega (arith, h, c.requires.4)) (latest-here at.invariant.1 w.0 w.1 is)),
    )
