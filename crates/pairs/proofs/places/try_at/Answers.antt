-- What is read at the place is what is there.
use Rattle.std.proofs.Common.{◌-◌, sym, refl, ◌∙◌, arith}
use Rattle.pairs.proofs.Spots.{another, holder}
use Rattle.pairs.proofs.places.try_at.Goals as goal

pub returns-then-held-eq0 : goal.returns-then-held-eq0
returns-then-held-eq0 c = record { empty = sym c.from-held.ensures ∙ c.if-held-eq0.true; is = refl }

pub key_at-requires : goal.key_at-requires
key_at-requires c =
    let p = c.requires in
    let a = c.args in
    omega (arith, p.0 a.spot, c.from-held.ensures, c.if-held-eq0.false)

pub returns-then-key_at-x : goal.returns-then-key_at-x
returns-then-key_at-x c = (
  refl,
  record {
    place = c.args.spot;
    holder = c.from-held.result - 1;
    there = holder c.from-held.ensures c.if-held-eq0.false;
    same = sym c.key_at.ensures ∙ c.if-key_at-x.true;
  },
)

pub returns : goal.returns
returns c =
    let w = holder c.from-held.ensures c.if-held-eq0.false in (refl, another w (λ q. c.if-key_at-x.false (c.key_at.ensures ∙ q)))
