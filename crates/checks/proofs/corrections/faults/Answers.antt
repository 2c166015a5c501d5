-- By whether there is a mark with its index: without one there is no tick for the price to be off.
use Rattle.std.proofs.Common.{sym, ◌∙◌}
use Rattle.dayfile.specs.Records.{marks_in}
use Rattle.checks.proofs.Faults.{without_mark, with_mark}
use Rattle.checks.proofs.corrections.faults.Goals as goal

pub returns-in-Some : goal.returns-in-Some
returns-in-Some c =
    with_mark (marks_in c.args.marks.marks.now) c.args.c (sym c.in-Some.is ∙ c.tick.ensures) c.above_limit.ensures c.off_tick.ensures

pub returns-in-None : goal.returns-in-None
returns-in-None c = without_mark (marks_in c.args.marks.marks.now) c.args.c (sym c.in-None.is ∙ c.tick.ensures) c.above_limit-in-None.ensures
