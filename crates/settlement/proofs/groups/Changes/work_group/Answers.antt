-- All marks of the group have the code of mark i, so the lanes hold their values at the final and the previous prices, and the differences
-- are their changes.
use Rattle.std.proofs.Common.{ap}
use Rattle.dayfile.specs.Records.{marks_in}
use Rattle.dayfile.specs.declared.records.Mark.{Mark}
use Rattle.settlement.specs.SettlingSteps.{changes_of}
use Rattle.settlement.specs.Groups.{last_of}
use Rattle.settlement.proofs.Grouping.{lanes_capped, lanes_right, works}
use Rattle.settlement.proofs.groups.Changes.work_group.Goals as goal

pub write_group-requires : goal.write_group-requires
write_group-requires c =
    lanes_capped (marks_in c.args.prices.marks.bytes.now) c.args.prices.last.now c.requires (ap (λ (m : Mark). m.code) c.mark_at.ensures) c.lane_prices-p.ensures c.values_or_zero-v.ensures

pub returns : goal.returns
returns c =
    let few = c.args.prices.marks.few in
    let g = c.requires in
    let v = c.values_or_zero-v in
    works (changes_of (marks_in c.args.prices.marks.bytes.now) (last_of c.args.prices.last.now)) c.args.g.marks v.result few g
    (lanes_right (marks_in c.args.prices.marks.bytes.now) c.args.prices.last.now g (ap (λ (m : Mark). m.code) c.mark_at.ensures) c.lane_prices-p.ensures v.ensures)
    c.write_group.ensures.changes c.write_group.ensures.flags
