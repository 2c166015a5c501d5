-- Indices found by their keys in a tree. A place of the tree holds 0 where it is empty, else one more than an index; each index has two
-- places below it. No statement of what the code answers rests on this.
use Rattle.std.specs.Prelude.{◌≡◌, ℕ, zero, suc, ◌+◌, ◌*◌, ◌/◌, ◌%◌, ◌<◌, ◌≤◌, Bool, ◌≢◌, List, ◌==◌, slice_index, slice_index_or}
use Rattle.numbers.specs.Folds.{last}

-- the key of each index; how many roots there are, which are places below no index; and for a key its root, and the number whose bits
-- lead its walk
pub record Keys : Type 0 where
  pub key : ℕ → ℕ
  pub roots : ℕ
  pub root : ℕ → ℕ
  pub rest : ℕ → ℕ

-- the place below index k for a number's lowest bit
abbrev pub child_of : Keys → ℕ → ℕ → ℕ
child_of t k r = t.roots + 2 * k + r % 2

-- the index that a place stands for when n comes to it: the one that it holds, or n
abbrev pub node_of : ℕ → ℕ → ℕ
node_of zero n = n
node_of (suc k) n = k

-- a place that is empty or holds an index with the key x
pub data Ends (t : Keys) (places : List ℕ) (x e : ℕ) : Type 0 where
  empty : slice_index_or places e 0 ≡ 0 → Ends t places x e
  same : {k : ℕ} → slice_index places e ≡ suc k → t.key k ≡ x → Ends t places x e

-- a walk for the key x that ends at e, from a number and a place on: past every index with another key
pub data Walk (t : Keys) (places : List ℕ) (x e : ℕ) : ℕ → ℕ → Type 0 where
  here : {r : ℕ} → Ends t places x e → Walk t places x e r e
  on : {r a k : ℕ} → slice_index places a ≡ suc k → t.key k ≢ x → Walk t places x e (r / 2) (child_of t k r) → Walk t places x e r a

-- the whole walk of index j
abbrev pub WalkOf : Keys → List ℕ → ℕ → ℕ → Type 0
WalkOf t places j e = Walk t places (t.key j) e (t.rest (t.key j)) (t.root (t.key j))

-- the places hold indices below n, and each index stands before the places below it
pub record Grown (t : Keys) (n : ℕ) (places : List ℕ) : Type 0 where
  pub filled : (a : ℕ) → slice_index places a ≤ n
  pub rising : (a k : ℕ) → slice_index places a ≡ suc k → a < t.roots + 2 * k

-- two indices have one key
abbrev pub same_key : Keys → ℕ → ℕ → Bool
same_key t j m = t.key j == t.key m

-- index j is led to an index with its key, beside which stands the last one below n with this key
pub record Known (t : Keys) (n : ℕ) (places lasts : List ℕ) (j : ℕ) : Type 0 where
  pub place : ℕ
  pub node : ℕ
  pub walked : WalkOf t places j place
  pub holds : slice_index_or places place 0 ≡ suc node
  pub alike : t.key node ≡ t.key j
  pub latest : slice_index_or lasts node 0 ≡ last (same_key t j) n

-- the tree of the indices below n
pub record Tree (t : Keys) (n : ℕ) (places lasts : List ℕ) : Type 0 where
  pub grown : Grown t n places
  pub known : (j : ℕ) → j < n → Known t n places lasts j
  pub unused : (j : ℕ) → n ≤ j → slice_index lasts j ≡ 0
