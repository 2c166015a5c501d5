-- By whether the section has a record i: it is read from the 12 bytes at 12 * i, and past the end it is that of no bytes.
use mathlib.Core.Path.{◌≡◌, sym, ◌∙◌}
use Prim.Native.Nat.{◌+◌, ◌*◌, ◌-◌}
use native.Mathlib.Omega.{arith}
use Rattle.dayfile.specs.Records.{record_size}
use Rattle.numbers.proofs.Sections.{record_here, record_past}
use Rattle.dayfile.proofs.records.record_at.Goals as goal

pub returns-then-i-s : goal.returns-then-i-s
returns-then-i-s g c =
    let size : 12 * (c.args.i + 1) - 12 * c.args.i ≡ record_size = omega arith in
    c.of.ensures ∙ rw size (sym (record_here g.R.Record.of record_size _ _ c.if-i-s.true))

pub returns-else-i-s : goal.returns-else-i-s
returns-else-i-s g c =
    c.zero.ensures ∙ sym (record_past g.R.Record.of record_size _ _ c.if-i-s.false)
