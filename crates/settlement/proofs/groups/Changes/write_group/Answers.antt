use Rattle.std.proofs.Common.{true, ◌∙◌, refl, arith}
use Rattle.numbers.proofs.Signed.{back}
use Rattle.settlement.specs.Groups.{lanes_change}
use Rattle.settlement.proofs.Grouping.{set-none, set_more}
use Rattle.settlement.proofs.groups.Changes.write_group.Goals as goal

pub loop-k-init : goal.loop-k-init
loop-k-init c = (set-none c.args.g.marks (lanes_change c.args.v) c.args.self.now.change, set-none c.args.g.marks (λ j. true) c.args.self.now.done)

pub difference-requires : goal.difference-requires
difference-requires c = let s = c.requires in (s.lane c.loop-k.k (omega arith), s.lane _ (omega arith))

pub loop-k-preserved : goal.loop-k-preserved
loop-k-preserved c =
    let a = c.args in
    let l = c.loop-k in (
      set_more a.g.marks (lanes_change a.v) a.self.now.change l.k l.invariant.0 (back c.difference.result c.difference.type_inv ∙ c.difference.ensures),
      set_more a.g.marks (λ j. true) a.self.now.done l.k l.invariant.1 refl,
    )
