-- The tree in which the code finds records by their keys, and the room that it needs. No statement of what the code answers rests on this.
use Rattle.std.specs.Prelude.{◌≡◌, ℕ, ◌+◌, ◌*◌, ◌/◌, ◌%◌, ◌<◌, ◌≤◌, List, length, slice_index}
use Rattle.pairs.specs.Trees.{Keys}
use Rattle.pairs.specs.Keys.{word, width_of, most}
use Rattle.pairs.specs.declared.keys.Key.{Key}

-- 32 bits of a key: its lower half times an odd number and its upper half times another, added
unfoldable pub scattered : ℕ → ℕ
scattered x = (x % word * 2_654_435_761 % word + x / word * 2_246_822_519 % word) % word

-- the highest of them choose one of the roots
unfoldable pub root_of : ℕ → ℕ → ℕ
root_of roots x = scattered x * roots / word

-- the number whose bits lead the walk, the lowest first: the 32 bits, and then the upper half of the key
unfoldable pub rest_of : ℕ → ℕ
rest_of x = scattered x + word * (x / word)

-- the tree of these keys, and where their walks start
abbrev pub tree_of : (ℕ → ℕ) → ℕ → Keys
tree_of key roots = record { key = key; roots = roots; root = root_of roots; rest = rest_of }

-- n records whose keys can be read
pub record Keyed (k : Key) (size : ℕ) (s : List ℕ) (n : ℕ) : Type 0 where
  pub few : n ≤ most
  pub whole : n ≤ length s / size
  pub wide : 0 < n → width_of k ≤ size

-- and places for a tree of n records: the roots, at most four for each of the most records, and two below each record
pub record Room (roots places n : ℕ) : Type 0 where
  pub rooted : 0 < roots
  pub limited : roots ≤ 4 * most
  pub room : roots + 2 * n ≤ places

-- a list of zeros: places that are all empty
abbrev pub Zeros : List ℕ → Type 0
Zeros a = (i : ℕ) → slice_index a i ≡ 0
