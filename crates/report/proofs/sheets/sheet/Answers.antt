-- By the room: a short buffer stays as it is. Else the settlement has carried out the plan, and its lines and its answer, which always fit,
-- are the sheet.
use Rattle.report.proofs.WholeSheet.{sheet_no_room, sheet_written}
use native.Mathlib.Omega.{arith}
use lib.ListN.{length}
use Rattle.report.proofs.Plans.{paid}
use Rattle.report.proofs.sheets.sheet.Goals as goal

pub returns-then-out-lt-SHEET_SIZE : goal.returns-then-out-lt-SHEET_SIZE
returns-then-out-lt-SHEET_SIZE c =
    let x = sheet_no_room c.args.file.now (length c.args.amounts.now) c.args.amounts.now c.args.out.now (omega arith) in
    record { sheet = x.0; amounts = x.1 }

pub write_sheet-requires : goal.write_sheet-requires
write_sheet-requires c =
    let s = c.args in
    let r = c.settle-answer in
    paid s.file.now s.amounts.now r.new.amounts r.result r.auto.amounts r.ensures.answer r.ensures.written

pub returns : goal.returns
returns c =
    let s = c.args in
    let r = c.settle-answer in
    let x = sheet_written s.file.now s.amounts.now r.new.amounts r.result
    (λ i. omega (arith, c.type_inv.file i)) (omega arith)
    r.auto.amounts r.ensures.answer r.ensures.written c.write_sheet.ensures in
    record { sheet = x.0; amounts = x.1 }
