-- By check 14: with fewer places than positions the plan is that refusal, else it is to accept the records.
use Rattle.std.proofs.Common.{◌∙◌, arith}
use Rattle.dayfile.specs.Records.{lists_of}
use Rattle.settlement.proofs.Plans.{refuses, settles_as, plan_short, plan_accepted}
use Rattle.settlement.proofs.settling.settle_records.Goals as goal

pub returns-then-amounts-position_count : goal.returns-then-amounts-position_count
returns-then-amounts-position_count c =
    let s = c.args in
    refuses (plan_short (lists_of s.marks.now s.corrections.now s.positions.now) _ (omega (arith, c.position_count.ensures, c.if-amounts-position_count.true)) ∙ rw c.from.ensures)

pub settle_accepted-requires : goal.settle_accepted-requires
settle_accepted-requires c = (c.requires, omega (arith, c.position_count.ensures, c.if-amounts-position_count.false))

pub returns : goal.returns
returns c =
    let s = c.args in
    settles_as (plan_accepted (lists_of s.marks.now s.corrections.now s.positions.now) _
    (omega (arith, c.position_count.ensures, c.if-amounts-position_count.false)))
    c.settle_accepted.ensures
