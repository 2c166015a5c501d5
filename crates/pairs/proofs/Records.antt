-- The keys of a list's records, and how many of the records are looked at.
use Rattle.std.proofs.Common.{◌≡◌, ℕ, ◌*◌, ◌/◌, ◌<◌, ◌≤◌, ◌↔◌, List, [], map, length, get_or, sym, refl, ap, ◌∙◌, arith, le-ltb, lt-ltb}
use native.Mathlib.Decide.{dec_lt}
use Rattle.numbers.specs.Bytes.{Bytes, u32_at, part, records_of}
use Rattle.numbers.proofs.Bytes.{u32_small}
use Rattle.numbers.proofs.Sections.{records-count, record_here, record_past}
use Rattle.pairs.specs.Keys.{width_of, key_of, keys_in, key_at, least, most, looked_at}
use Rattle.pairs.specs.declared.keys.Key.{Key}
use Rattle.pairs.specs.declared.keys.Key.TheVariants.{Four, Eight}
use Rattle.pairs.proofs.Least.{least-second}

no_key : (k : Key) → key_of k [] ≡ 0
unfolding u32_at
no_key Four = refl
no_key Eight = refl

-- two keys of eight bytes are one where both halves are
pub eight_same : (r s : List ℕ) → Bytes r → Bytes s → (key_of Eight r ≡ key_of Eight s) ↔ ((u32_at r 0 ≡ u32_at s 0) × (u32_at r 4 ≡ u32_at s 4))
eight_same r s a b =
    let m = u32_small r 0 a in
    let n = u32_small s 0 b in
    ((λ e. (omega (arith, e), omega (arith, e))), (λ h. omega (arith, h.0, h.1)))

module _ (k : Key) (size : ℕ) (s : List ℕ) where
  -- the key of record i, from its place
  pub key_here : (i : ℕ) → i < length s / size → key_at k size s i ≡ key_of k (part (size * i) size s)
  unfolding key_at
  key_here i h = ap (get_or (keys_in k size s) i) (sym (no_key k)) ∙ record_here (key_of k) size s i h

  -- it is 0 past the end
  pub key_past : (i : ℕ) → length s / size ≤ i → key_at k size s i ≡ 0
  unfolding key_at
  key_past i h = ap (get_or (keys_in k size s) i) (sym (no_key k)) ∙ record_past (key_of k) size s i h ∙ no_key k

  -- and from a reader of whole records: what g takes from a record that f reads
  pub key_read : {R : Type 0} (f : List ℕ → R) (g : R → ℕ) → ((r : List ℕ) → key_of k r ≡ g (f r)) → (i : ℕ)
      → key_at k size s i ≡ g (get_or (map f (records_of size s)) i (f []))
  key_read f g h i = go (dec_lt i (length s / size))
    where
      go : Dec (i < length s / size) → key_at k size s i ≡ g (get_or (map f (records_of size s)) i (f []))
      go (yes l) = key_here i l ∙ h (part (size * i) size s) ∙ ap g (sym (record_here f size s i l))
      go (no l) =
          let past : length s / size ≤ i = omega arith in
          key_past i past ∙ sym (no_key k) ∙ h [] ∙ ap g (sym (record_past f size s i past))

  -- how many are looked at
  pub looked-none : size < width_of k → 0 ≡ looked_at k size s
  unfolding looked_at
  looked-none h = rw (lt-ltb size (width_of k) h)

  pub looked-some : width_of k ≤ size → {r : ℕ} → r ≡ least most (length s / size) → r ≡ looked_at k size s
  unfolding looked_at
  looked-some h e = rw (le-ltb size (width_of k) h, records-count size s) e

  -- a list of at most MOST records is looked at whole
  pub looked_all : width_of k ≤ size → length s / size ≤ most → looked_at k size s ≡ length s / size
  looked_all h f = sym (looked-some h (least-second most (length s / size) f))
