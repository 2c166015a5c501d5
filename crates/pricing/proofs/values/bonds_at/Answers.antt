use Rattle.std.proofs.Common.{rules}
use Rattle.pricing.proofs.Made.{callable, made}
use Rattle.pricing.proofs.SideBySide.{ladder_low, bonds_are}
use Rattle.pricing.proofs.values.bonds_at.Goals as goal

pub ladders-last-requires : goal.ladders-last-requires
ladders-last-requires g c =
    let few = c.requires.1.few in
    let m = c.requires.0 in
    (search rules, (search rules, (m.2, m.3, c.requires.1)))

pub from_fn-requires-room-F-FnMut : goal.from_fn-requires-room-F-FnMut
from_fn-requires-room-F-FnMut g c κs within = let few = c.requires.1.few in search rules

pub from_fn-requires-room-F-FnOnce : goal.from_fn-requires-room-F-FnOnce
from_fn-requires-room-F-FnOnce g c κs within = let few = c.requires.1.few in search rules

pub from_fn-requires : goal.from_fn-requires
from_fn-requires g c =
    let m = c.requires.0 in
    let few = c.requires.1.few in
    (search rules, callable _ (λ i y f' k. search rules) (λ i h. (search rules, (h, m.0, m.1, ladder_low c.requires.1 m.3 c.ladders-last.ensures i h))))

pub returns : goal.returns
returns g c =
    let a = c.args in
    bonds_are a.face a.coupon a.halves a.p c.ladders-last.ensures (made _ (λ i y f' k. search rules) 0 c.from_fn.ensures.items)
