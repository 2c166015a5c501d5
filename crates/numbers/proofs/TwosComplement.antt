-- A u32 read in two's complement is a shifted one, less the shift.
use Rattle.std.proofs.Common.{ℤ, negsuc, suc, ◌-◌, w32, to_z, ◌≡◌, ℕ, ◌+◌, ◌%◌, ◌<◌, Bool, true, false, cond, ltb, pos, ◌-ℤ◌, refl, arith, ltb-false, ltb-true}
use Rattle.std.proofs.lemmas.Int.{ints}
use Rattle.numbers.specs.Bytes.{signed}
use Rattle.numbers.proofs.Integers.{is_nat, is_diff, is_equal}

pub shifted_back : (u : ℕ) {w : ℕ} → u < 4_294_967_296 → w ≡ (u + 2_147_483_648) % 4_294_967_296 → pos w -ℤ pos 2_147_483_648 ≡ signed u
unfolding signed
shifted_back u {w} h e = go (ltb u 2_147_483_648) refl
  where
    go : (b : Bool) → ltb u 2_147_483_648 ≡ b → pos w -ℤ pos 2_147_483_648 ≡ cond b (pos u) (pos u -ℤ pos 4_294_967_296)
    go true q = is_equal (is_diff w 2_147_483_648) (is_nat u) (omega (arith, ltb-true u 2_147_483_648 q))
    go false q = is_equal (is_diff w 2_147_483_648) (is_diff u 4_294_967_296) (omega (arith, ltb-false u 2_147_483_648 q))

pub cast_is : (u : ℕ) {z : ℤ} → u < 4_294_967_296 → z ≡ to_z w32 u → z ≡ signed u
unfolding signed
cast_is u {z} h e = go (ltb u 2_147_483_648) refl
  where
    go : (b : Bool) → ltb u 2_147_483_648 ≡ b → z ≡ cond b (pos u) (pos u -ℤ pos 4_294_967_296)
    go true q = let w : z ≡ pos u = omega (arith, ints, ltb-true u 2_147_483_648 q) in w
    go false q =
        let w : to_z w32 u ≡ negsuc (4_294_967_296 - suc u) = rw q in
        let x : z ≡ pos u -ℤ pos 4_294_967_296 = omega (arith, ints, w, ltb-false u 2_147_483_648 q) in x
