-- Two letters make one number, and different pairs of letters make different ones.
use Rattle.std.proofs.Common.{◌≡◌, ℕ, ◌+◌, ◌*◌, ◌<◌, ◌&&◌, eqb, arith, rules}
use Rattle.std.proofs.lemmas.Bool.Decides.{nat_tests}
use Rattle.products.specs.Products.{same_code}
use Rattle.products.proofs.table.same_code.Goals as goal

letters : (a b a' b' : ℕ) → a < 256 → a' < 256 → eqb (a + b * 256) (a' + b' * 256) ≡ (eqb a a' && eqb b b')
letters a b a' b' h h' = grind (arith, nat_tests)

pub returns : goal.returns
unfolding same_code
returns c =
    let a = c.args.a in
    let b = c.args.b in
    let h : a.0 < 256 = search rules in
    let k : b.0 < 256 = search rules in
    rw (c.from_le_bytes.ensures, c.from_le_bytes-2.ensures) (letters a.0 a.1 b.0 b.1 h k)
