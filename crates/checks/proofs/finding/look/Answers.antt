-- By whether checks 1 and 2 give the counts: without them the header alone is looked at, with them the header and then the records.
use Rattle.std.proofs.Common.{sym, ◌∙◌}
use Rattle.numbers.specs.declared.wanted.Wanted.TheVariants.{One}
use Rattle.checks.proofs.Deciding.{handed_on}
use Rattle.checks.proofs.Found.{header_decides, header_alone, counted-within, records_decide}
use Rattle.checks.proofs.finding.look.Goals as goal

pub returns-in_err-decide_header : goal.returns-in_err-decide_header
returns-in_err-decide_header c =
    handed_on _ c.in_err-decide_header.field-0.0 c.from_residual.ensures.1 ∙ header_decides c.args.file.now (One c.args.k) c.in_err-decide_header.ensures

pub of-requires : goal.of-requires
of-requires c = counted-within c.args.file.now (sym c.in-Ok.ensures)

pub returns-in-Ok : goal.returns-in-Ok
returns-in-Ok c =
    records_decide c.args.file.now (One c.args.k) (sym c.in-Ok.ensures) c.of.ensures c.in_ok-decide_header.ensures c.decide_one.ensures

pub returns-in-Err : goal.returns-in-Err
returns-in-Err c = header_alone c.args.file.now (One c.args.k) (sym c.in-Err.ensures) c.in_ok-decide_header.ensures
