-- The ladder as it is climbed, rung by rung, at one price or at several side by side. No caller of the crate sees these.
use Rattle.std.specs.Prelude.{ℕ, ◌+◌, ◌*◌, ◌≤◌, ◌<◌, List, get_or}
use Rattle.numbers.specs.Rounding.{nearest}
use Rattle.products.specs.Products.{price_limit}
use Rattle.pricing.specs.Ladder.{first_factor, factor, annuity}
use Rattle.pricing.specs.Value.{scale, bond_divisor}
use Rattle.pricing.specs.Calls.{lanes}
use Rattle.pricing.specs.declared.ladder.Rung.{Rung}

-- V1, Vk and V1 + .. + Vk at a price
unfoldable pub rung_at : ℕ → ℕ → Rung
rung_at p k = record { first = first_factor scale (bond_divisor p); v = factor scale (bond_divisor p) k; sum = annuity scale (bond_divisor p) k }

-- the rung above
unfoldable pub next_of : Rung → Rung
next_of l = record { first = l.first; v = nearest (l.v * l.first) scale; sum = l.sum + nearest (l.v * l.first) scale }

-- the value of a bond in cents by its ladder's last rung
abbrev pub bond_of : ℕ → ℕ → Rung → ℕ
bond_of face coupon l = nearest ((coupon * l.sum + 100 * l.v) * face) scale

-- a rung whose successor fits 64 bits
pub record Low (l : Rung) : Type 0 where
  pub first : l.first ≤ 100_000_000
  pub v : l.v ≤ 100_000_000
  pub sum : l.sum ≤ 4_000_000_000

abbrev pub no_rung : Rung
no_rung = record { first = 0; v = 0; sum = 0 }

-- few prices, within the limit
pub record Within (n : ℕ) (p : List ℕ) : Type 0 where
  pub few : n ≤ lanes
  pub lane : (i : ℕ) → i < n → get_or p i 0 ≤ price_limit
