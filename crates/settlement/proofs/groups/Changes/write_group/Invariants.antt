-- At place k the changes of the group's first k marks are written, and their flags.
use Rattle.std.proofs.Common.{◌≡◌, true}
use Rattle.settlement.specs.Groups.{lanes_change, set_all}
use Rattle.settlement.proofs.groups.Changes.write_group.Given as goal

abbrev pub invariant-loop-k : goal.invariant-loop-k
invariant-loop-k l =
    (l.self.change ≡ set_all l.k l.g.marks (lanes_change l.v) l.initial.self.change) × (l.self.done ≡ set_all l.k l.g.marks (λ j. true) l.initial.self.done)
