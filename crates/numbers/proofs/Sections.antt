-- A section's records by index, and parts of a list.
use Rattle.std.proofs.Common.{◌≡◌, ℕ, zero, suc, ◌+◌, ◌-◌, ◌*◌, ◌/◌, ◌<◌, ◌≤◌, List, [], ◌++◌, map, length, get_or, take, drop, sym, refl, ap, ◌∙◌, append_assoc, le_of_suc-le-suc, not-suc-le-zero, mul-zero, arith, length-drop, drop_of_length-le, length-take, length-take-le, take_all, drop-drop, take_at, drop_at}
use native.Mathlib.Nat.{min-le_left}
use lib.Seq.{take-nil}
use Rattle.numbers.specs.Bytes.{part, records, records_of}

-- how many records a section has
pub records-count : (w : ℕ) (s : List ℕ) → length (records_of w s) ≡ length s / w
unfolding records_of
records-count w s = go (length s / w) s
  where
    go : (n : ℕ) (s : List ℕ) → length (records w n s) ≡ n
    go zero s = refl
    go (suc n) s = ap suc (go n (drop w s))

module _ {R : Type 0} (f : List ℕ → R) (w : ℕ) where
  length-map-records : (n : ℕ) (s : List ℕ) → length (map f (records w n s)) ≡ n
  length-map-records zero s = refl
  length-map-records (suc n) s = ap suc (length-map-records n (drop w s))

  pub size_is : (s : List ℕ) → length (map f (records_of w s)) ≡ length s / w
  unfolding records_of
  size_is s = length-map-records (length s / w) s

  inside : (n : ℕ) (s : List ℕ) (j : ℕ) → j < n → get_or (map f (records w n s)) j (f []) ≡ f (part (w * j) w s)
  inside zero s j h = absurd (not-suc-le-zero h)
  inside (suc n) s zero h = rw mul-zero
  inside (suc n) s (suc j) h =
      let q : w + w * j ≡ w * suc j = omega arith in
      inside n (drop w s) j (le_of_suc-le-suc h) ∙ ap (λ t. f (take w t)) (drop-drop (w * j) w s ∙ ap (λ (o : ℕ). drop o s) q)

  outside : (n : ℕ) (s : List ℕ) (j : ℕ) → n ≤ j → get_or (map f (records w n s)) j (f []) ≡ f []
  outside zero s j h = refl
  outside (suc n) s zero h = absurd (not-suc-le-zero h)
  outside (suc n) s (suc j) h = outside n (drop w s) j (le_of_suc-le-suc h)

  -- the record that a reader takes from its place
  pub record_here : (s : List ℕ) (j : ℕ) → j < length s / w → get_or (map f (records_of w s)) j (f []) ≡ f (part (w * j) w s)
  unfolding records_of
  record_here s j h = inside (length s / w) s j h

  pub record_past : (s : List ℕ) (j : ℕ) → length s / w ≤ j → get_or (map f (records_of w s)) j (f []) ≡ f []
  unfolding records_of
  record_past s j h = outside (length s / w) s j h

-- ---- parts of a list

pub length_part : (a n : ℕ) (s : List ℕ) → a + n ≤ length s → length (part a n s) ≡ n
length_part a n s h = length-take-le n _ (rw (length-drop a s) (omega arith))

pub part-within : (a n : ℕ) (s : List ℕ) → length (part a n s) ≤ n
part-within a n s = rw (length-take n (drop a s)) (min-le_left n (length (drop a s)))

pub part_at : (a b c : List ℕ) (f n : ℕ) → length a ≡ f → length b ≡ n → part f n (a ++ b ++ c) ≡ b
part_at a b c f n h k = rw (append_assoc a b c, drop_at a (b ++ c) f h) (take_at b c n k)

pub part_end : (a b : List ℕ) (f n : ℕ) → length a ≡ f → length b ≡ n → part f n (a ++ b) ≡ b
part_end a b f n h k = rw (drop_at a b f h) (take_all n b (omega arith))

-- a part that goes past the end has what there is
pub part-rest : (a m n : ℕ) (s : List ℕ) → length s - a ≤ m → length s - a ≤ n → part a m s ≡ part a n s
part-rest a m n s h k = take_all m (drop a s) (rw (length-drop a s) h) ∙ sym (take_all n (drop a s) (rw (length-drop a s) k))

-- and one that starts there has nothing
pub part_past : (a n : ℕ) (s : List ℕ) → length s ≤ a → [] ≡ part a n s
part_past a n s h = sym (rw (drop_of_length-le s {i = a} h) (take-nil n))

pub part_none : (a n : ℕ) (s : List ℕ) → n ≡ 0 → [] ≡ part a n s
part_none a n s e = rw e
