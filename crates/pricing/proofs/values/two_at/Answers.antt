-- By the terms: each kind's formula at both prices.
use Rattle.std.proofs.Common.{rules}
use Rattle.pricing.proofs.SideBySide.{two_prices, pair_of}
use Rattle.pricing.proofs.values.two_at.Goals as goal

pub bill_at-requires : goal.bill_at-requires
bill_at-requires c = let s = c.requires in (rw c.in-Bill.is at s.0, s.1)

pub bill_at-requires-in-Bill : goal.bill_at-requires-in-Bill
bill_at-requires-in-Bill c = let s = c.requires in (rw c.in-Bill.is at s.0, s.2)

pub bonds_at-requires : goal.bonds_at-requires
bonds_at-requires c = let s = c.requires in (search rules, (search rules, (rw c.in-Bond.is at s.0, two_prices s.1 s.2)))

pub returns-in-Bond : goal.returns-in-Bond
returns-in-Bond c = rw c.in-Bond.is (pair_of (search rules) c.bonds_at.ensures)
