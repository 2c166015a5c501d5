-- Which earlier record of a list has the same key. The list is the bytes of its records, and a record's key the number that its first four
-- or eight bytes make.
use Rattle.std.specs.Prelude.{ℕ, ◌+◌, ◌*◌, Bool, cond, List, map, length, ◌==◌, nat_le, nat_lt, slice_index}
use Rattle.numbers.specs.Bytes.{u32_at, records_of}
use Rattle.numbers.specs.Folds.{last}
use Rattle.pairs.specs.declared.keys.Key.{Key}
use Rattle.pairs.specs.declared.keys.Key.TheVariants.{Four, Eight}

-- 2^32
abbrev pub word : ℕ
word = 4_294_967_296

-- how many bytes a key has
abbrev pub width_of : Key → ℕ
width_of Four = 4
width_of Eight = 8

-- the key of a record, from its bytes
abbrev pub key_of : Key → List ℕ → ℕ
key_of Four r = u32_at r 0
key_of Eight r = u32_at r 0 + word * u32_at r 4

-- the keys of the whole records of a list
abbrev pub keys_in : Key → ℕ → List ℕ → List ℕ
keys_in k size s = map (key_of k) (records_of size s)

-- that of record i, 0 past the end
unfoldable pub key_at : Key → ℕ → List ℕ → ℕ → ℕ
key_at k size s i = slice_index (keys_in k size s) i

-- records i and j have the same key
abbrev pub same_key_in : Key → ℕ → List ℕ → ℕ → ℕ → Bool
same_key_in k size s i j = key_at k size s i == key_at k size s j

-- one more than the index of the last earlier record with the key of record i, or 0
abbrev pub earlier_in : Key → ℕ → List ℕ → ℕ → ℕ
earlier_in k size s i = last (same_key_in k size s i) i

-- the smaller of two numbers
abbrev pub least : ℕ → ℕ → ℕ
least m n = cond (nat_le m n) m n

-- the most records that are looked at
abbrev pub most : ℕ
most = 4_096

-- how many are: none where a record is shorter than its key
unfoldable pub looked_at : Key → ℕ → List ℕ → ℕ
looked_at k size s = cond (nat_lt size (width_of k)) 0 (least most (length (records_of size s)))
