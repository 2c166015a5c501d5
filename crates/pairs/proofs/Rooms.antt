-- Records that are looked at have keys, and places for a tree of them.
use Rattle.std.proofs.Common.{◌≡◌, ℕ, ◌+◌, ◌*◌, ◌/◌, ◌<◌, ◌≤◌, Bool, true, false, cond, ltb, List, length, min, replicate, refl, le_trans, mul-le-mul_left, arith, ltb-false}
use Rattle.std.proofs.Math.Nat.{min-le_left}
use native.Mathlib.Nat.{mul-div-le}
use lib.ListN.{length-replicate}
use Rattle.numbers.proofs.Sections.{records-count}
use Rattle.pairs.specs.Keys.{width_of, least, most, looked_at}
use Rattle.pairs.specs.Walks.{Keyed, Room}
use Rattle.pairs.specs.declared.keys.Key.{Key}
use Rattle.pairs.specs.declared.keys.Key.TheVariants.{Four, Eight}
use Rattle.pairs.proofs.Least.{least-below-first, least-below-second}

pub width_pos : (k : Key) → 0 < width_of k
width_pos Four = omega arith
width_pos Eight = omega arith

-- a whole record ends before the list does
pub record_ends : (w x i : ℕ) → i < x / w → w * i + w ≤ x
record_ends w x i h = omega (arith, mul-div-le x w, mul-le-mul_left w h)

module _ (k : Key) (size : ℕ) (s : List ℕ) where
  -- those that are looked at have keys
  pub looked-keyed : (n : ℕ) → n ≤ looked_at k size s → Keyed k size s n
  unfolding looked_at
  looked-keyed n h = go (ltb size (width_of k)) refl (rw records-count at h)
    where
      go : (b : Bool) → ltb size (width_of k) ≡ b → n ≤ cond b 0 (least most (length s / size)) → Keyed k size s n
      go true e l = record { few = omega arith; whole = omega arith; wide = λ p. absurd (omega arith) }
      go false e l =
          record {
            few = le_trans l (least-below-first most (length s / size));
            whole = le_trans l (least-below-second most (length s / size));
            wide = λ p. ltb-false size (width_of k) e;
          }

  -- and so have as many of them as there are places for
  pub looked-few : {n r : ℕ} (m : ℕ) → n ≡ looked_at k size s → r ≡ min n m → Keyed k size s r
  looked-few {n} {r} m p e = looked-keyed r (omega (arith, p, e, min-le_left n m))

-- room for one record after the other
pub room_for : {roots places n : ℕ} (i : ℕ) → i < n → Room roots places n → Room roots places (i + 1)
room_for i h r = record { rooted = r.rooted; limited = r.limited; room = omega (arith, r.room) }

-- room in places that are all empty
pub room_in : {n : ℕ} (roots places : ℕ) → 0 < roots → roots ≤ 4 * most → roots + 2 * n ≤ places → Room roots (length {A = ℕ} (replicate places 0)) n
room_in roots places rooted limited room = let z : ℕ = 0 in record { rooted = rooted; limited = limited; room = rw (length-replicate places z) room }
