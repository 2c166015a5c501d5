use mathlib.Core.Path.{◌≡◌, refl, ◌∙◌}
use Prim.Native.Nat.{◌/◌}
use native.Mathlib.Omega.{arith}
use Rattle.numbers.specs.Bytes.{u32_bytes}
use Rattle.text.proofs.Writing.{wrote_copy}
use Rattle.making.proofs.writing.write_u32.Goals as goal

pub returns : goal.returns
unfolding u32_bytes
returns c =
    let n = c.args.n in
    let b : n / 65_536 ≡ n / 256 / 256 = omega arith in
    let t : n / 16_777_216 ≡ n / 256 / 256 / 256 = omega arith in
    wrote_copy (u32_bytes n) c.args.out.now c.requires (c.copy_from_slice.ensures.after ∙ c.to_le_bytes.ensures ∙ rw (b, t) refl)
