-- The records that are looked at, by their keys.
use Rattle.std.specs.Prelude.{ℕ, Bool}
use Rattle.pairs.specs.Keys.{key_at, same_key_in, earlier_in}
use Rattle.pairs.specs.declared.keys.Records.{Records}

-- the key of each
abbrev pub keys_of : Records → ℕ → ℕ
keys_of r = key_at r.key r.size r.bytes.now

-- two of them have the same key
abbrev pub same_in : Records → ℕ → ℕ → Bool
same_in r = same_key_in r.key r.size r.bytes.now

-- and one more than the index of the last earlier one with the key of record i, or 0
abbrev pub earlier_of : Records → ℕ → ℕ
earlier_of r = earlier_in r.key r.size r.bytes.now
