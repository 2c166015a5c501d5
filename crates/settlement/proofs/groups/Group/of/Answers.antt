use Rattle.std.proofs.Common.{◌<◌, arith}
use Rattle.dayfile.specs.Records.{marks_in}
use Rattle.settlement.specs.Groups.{group_size}
use Rattle.settlement.proofs.Grouping.{grouped_one, grouped_more, alike_codes}
use Rattle.settlement.proofs.groups.Group.of.Goals as goal
use Rattle.settlement.proofs.groups.Group.of.Goals.{then-not-done-j+then-alike, else-not-done-j}

pub loop-j-init : goal.loop-j-init
loop-j-init c = (omega arith, omega arith, grouped_one (marks_in c.args.marks.bytes.now) c.requires)

pub loop-j-preserved : goal.loop-j-preserved
loop-j-preserved c =
    let at = c.loop-j.invariant in
    let room : c.loop-j.count < group_size = omega arith in
    elim c.if-not-done-j.branch [
      | then-not-done-j+then-alike w ↦
          rw (w.g-is, w.count-is)
          (omega arith, omega arith, grouped_more (marks_in c.args.marks.bytes.now) at.0 room (omega arith) (alike_codes _ _ _ w.alike.ensures w.if-alike.true) at.2)
      | else-not-done-j w ↦ rw (w.g-is, w.count-is) at
    ]
