-- How large terms and values are. Proofs rest on these; nothing that is promised is said in them but the cap.
use Rattle.std.specs.Prelude.{ℕ, ◌≤◌}
use Rattle.std.proofs.Props.{props}
use Rattle.products.specs.declared.table.Terms.{Terms}
use Rattle.products.specs.declared.table.Terms.TheVariants.{Bill, Bond, CashRate}

-- no value is above this, in cents (proofs/Promises.antt, value_cap_lem)
abbrev pub value_cap : ℕ
value_cap = 500_000_000

-- terms small enough that no step of a value leaves 64 bits
abbrev pub Modest : Terms → Type 0
Modest (Bill face days) = (face ≤ 1_000_000) × (days ≤ 100)
Modest (Bond face c n) = (face ≤ 100_000) × (c ≤ 3) × (1 ≤ n) × (n ≤ 40)
Modest (CashRate cents) = cents ≤ 10_000

-- by the terms' kind, one proof of it at most
pub modest_prop : (t : Terms) → IsProp (Modest t)
modest_prop (Bill face days) = Prim.hlevel props
modest_prop (Bond face c n) = Prim.hlevel props
modest_prop (CashRate cents) = Prim.hlevel props
