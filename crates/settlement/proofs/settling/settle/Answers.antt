-- By what the file is judged to be: a refusal is the plan and writes nothing; a passed file's sections are its lists, whose records passed.
use Rattle.std.proofs.Common.{◌≡◌, Err, length, refl, rules}
use Rattle.dayfile.proofs.Parts.{lists_are}
use Rattle.settlement.proofs.Plans.{answered, passed_lists, refuses, lists_pass_of, settles_of}
use Rattle.settlement.proofs.settling.settle.Goals as goal

pub returns-in_err-counts : goal.returns-in_err-counts
returns-in_err-counts c =
    let same : c.from_residual.result ≡ Err c.in_err-counts.field-0.0 = search rules in
    let x = answered c.args.file.now c.args.amounts.now c.in_err-counts.ensures (rw same (refuses refl)) in
    record { answer = x.0; written = x.1 }

pub settle_records-requires : goal.settle_records-requires
settle_records-requires c =
    let f = c.args.file.now in
    lists_pass_of (lists_are f c.in_ok-counts.field-0.counts c.marks_in.ensures c.corrections_in.ensures c.positions_in.ensures) (passed_lists f c.in_ok-counts.ensures)

pub returns : goal.returns
returns c =
    let f = c.args.file.now in
    let cut = lists_are f c.in_ok-counts.field-0.counts c.marks_in.ensures c.corrections_in.ensures c.positions_in.ensures in
    let x = answered f c.args.amounts.now c.in_ok-counts.ensures (settles_of (length c.args.amounts.now) cut c.settle_records.ensures) in
    record { answer = x.0; written = x.1 }
