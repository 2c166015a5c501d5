use Rattle.std.proofs.Common.{◌∙◌, arith}
use Rattle.dayfile.specs.Records.{marks_in, corrections_in}
use Rattle.settlement.specs.SettlingSteps.{changes_of}
use Rattle.settlement.specs.Groups.{last_of}
use Rattle.settlement.proofs.Grouping.{reached_none, reached_more, reached_all, changes_by}
use Rattle.settlement.proofs.groups.Changes.work_all.Goals as goal

pub loop-i-init : goal.loop-i-init
loop-i-init c = rw (c.requires.0, c.requires.1) (reached_none (marks_in c.args.marks.bytes.now) (last_of c.finals.new.price))

pub loop-i-preserved : goal.loop-i-preserved
loop-i-preserved c = reached_more (changes_of (marks_in c.args.marks.bytes.now) (last_of c.finals.new.price)) c.work.ensures c.loop-i.invariant

pub returns : goal.returns
returns c =
    let ms = marks_in c.args.marks.bytes.now in
    reached_all ms (last_of c.finals.new.price) c.args.marks.few (omega arith) c.loop-i.invariant
    ∙ changes_by ms (corrections_in c.args.corrections.now) c.finals.ensures
