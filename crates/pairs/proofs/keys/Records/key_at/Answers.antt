-- A record with an index below their number ends within the list, and its key is that of the bytes cut out at its place.
use Rattle.std.proofs.Common.{◌/◌, ◌<◌, length, sym, ◌∙◌, arith}
use native.Mathlib.Nat.{add-sub_cancel_left}
use Rattle.pairs.proofs.Records.{key_here}
use Rattle.pairs.proofs.keys.Records.key_at.Goals as goal

pub returns : goal.returns
returns c =
    let s = c.args.self.now in
    let h : c.args.i < length s.bytes.now / s.size = omega (arith, c.requires, s.keyed.whole) in
    c.key_of.ensures ∙ rw add-sub_cancel_left (sym (key_here _ _ _ _ h))
