-- By whether the file opens: one that does not has no lines, and of one that does the lines with the slice's amounts are those of its plan
-- (`settled_lines`).
use mathlib.Core.Path.{ap, sym, ◌∙◌}
use lib.Seq.{length-take-le}
use Rattle.dayfile.specs.Opening.{opened}
use Rattle.dayfile.proofs.Opening.{laid_out}
use Rattle.dayfile.proofs.Parts.{lists_within}
use Rattle.text.proofs.Writing.{writes_as, writes_none}
use Rattle.report.proofs.Plans.{refused_lines, settled_lines, lines_by}
use Rattle.report.proofs.sheets.write_settled.Goals as goal

pub slice_bounds-write_positions-end : goal.slice_bounds-write_positions-end
slice_bounds-write_positions-end c =
    let l = settled_lines c.args.file.now c.args.amounts.now c.open_file.ensures (ap opened c.in-Ok.is) c.requires in
    sym (length-take-le c.args.n c.args.amounts.now l.room)

pub write_positions-requires : goal.write_positions-requires
write_positions-requires c =
    let o = c.open_file.ensures in
    let e = ap opened c.in-Ok.is in
    let d = c.in-Ok.d in
    let m = c.marks_in.ensures in
    let p = c.positions_in.ensures in
    let l = settled_lines c.args.file.now c.args.amounts.now o e c.requires in (
      rw m (lists_within c.args.file.now d (laid_out c.args.file.now (sym o ∙ e)).counts-within).marks,
      rw (m, p, length-take-le c.args.n c.args.amounts.now l.room) l.named,
    )

pub returns-in-Err : goal.returns-in-Err
returns-in-Err c =
    writes_as (sym (refused_lines c.args.file.now _ c.open_file.ensures (ap opened c.in-Err.is))) (writes_none _)

pub returns-in-Ok : goal.returns-in-Ok
returns-in-Ok c =
    let l = settled_lines c.args.file.now c.args.amounts.now c.open_file.ensures (ap opened c.in-Ok.is) c.requires in
    writes_as (lines_by c.args.amounts.now c.args.n l.room c.marks_in.ensures c.positions_in.ensures ∙ l.lines) c.write_positions.ensures
