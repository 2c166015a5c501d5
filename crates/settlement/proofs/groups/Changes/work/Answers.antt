-- Three ways: an entry that is done is right already, a bond's is worked with its group, and any other is written as its mark's change.
use Rattle.std.proofs.Common.{◌<◌, sym, ◌∙◌, arith}
use Rattle.dayfile.specs.Limits.{file_limits}
use Rattle.dayfile.specs.Records.{marks_in}
use Rattle.numbers.proofs.Signed.{back}
use Rattle.settlement.specs.SettlingSteps.{changes_of}
use Rattle.settlement.specs.Groups.{last_of}
use Rattle.settlement.proofs.Changes.{change_at}
use Rattle.settlement.proofs.Grouping.{works_one, works_done}
use Rattle.settlement.proofs.groups.Changes.work.Goals as goal

pub returns-then-self-i : goal.returns-then-self-i
returns-then-self-i c = works_done (changes_of (marks_in c.args.prices.marks.bytes.now) (last_of c.args.prices.last.now)) c.if-self-i.true

pub returns : goal.returns
returns c =
    let ms = marks_in c.args.prices.marks.bytes.now in
    let last = last_of c.args.prices.last.now in
    let few : c.args.i < file_limits.marks = omega (arith, c.requires, c.args.prices.marks.few) in
    works_one (changes_of ms last) few
    (back c.change.result c.change.type_inv ∙ c.change.ensures ∙ sym (change_at ms last c.args.i c.requires))
