-- The test of a position's lots by the word that its bytes have for them.
use Rattle.std.proofs.Common.{◌≡◌, ℕ, suc, ◌+◌, ◌-◌, ◌*◌, ◌%◌, ◌<◌, Bool, true, false, ◌||◌, eqb, ltb, List, pos, negsuc, refl, ap, ◌∙◌, arith, ltb-false, ltb-true, le-ltb, lt-ltb, eq-eqb, ne_eqb, eqb-true}
use borrow.Author.Tests.{eqb-false}
use Rattle.numbers.specs.Bytes.{signed}
use Rattle.dayfile.specs.Limits.{lots_limit}
use Rattle.dayfile.specs.Records.{positions_in, position_at, raw_positions_in, raw_position_at, signed_position}
use Rattle.dayfile.proofs.Fields.{as_signed_position}
use Rattle.dayfile.specs.declared.records.RawPosition.{RawPosition}
use Rattle.checks.specs.Positions.{bad_lots}
use Rattle.checks.specs.Faults.{raw_faults, counted_faults}
use Rattle.checks.specs.declared.positions.PositionFaults.{PositionFaults}

-- a number moved up by the limit is the limit itself, or above twice the limit
abbrev off_moved : ℕ → Bool
off_moved y = eqb y lots_limit || ltb (2 * lots_limit) y

-- lots that are not negative
above : (u y : ℕ) → y ≡ u + lots_limit → off_moved y ≡ bad_lots (pos u)
above u y e = go (eqb u 0) refl (ltb lots_limit u) refl
  where
    go : (a : Bool) → eqb u 0 ≡ a → (b : Bool) → ltb lots_limit u ≡ b → off_moved y ≡ bad_lots (pos u)
    go true p b q = rw (p, eq-eqb y lots_limit (let h = eqb-true u 0 p in omega arith))
    go false p true q = rw (p, q, lt-ltb (2 * lots_limit) y (let h = ltb-true lots_limit u q in omega arith), ne_eqb y lots_limit (λ w. eqb-false u 0 p (omega arith)))
    go false p false q = rw (p, q, le-ltb (2 * lots_limit) y (let h = ltb-false lots_limit u q in omega arith), ne_eqb y lots_limit (λ w. eqb-false u 0 p (omega arith)))

-- negative lots, -(k + 1)
below : (k y : ℕ) → k < 2_147_483_648 → y ≡ (4_294_967_295 - k + lots_limit) % 4_294_967_296 → off_moved y ≡ bad_lots (negsuc k)
below k y h e = go (ltb (lots_limit - 1) k) refl
  where
    go : (b : Bool) → ltb (lots_limit - 1) k ≡ b → off_moved y ≡ bad_lots (negsuc k)
    go true q =
        let w = ltb-true (lots_limit - 1) k q in
        let v : y ≡ 4_294_967_295 + lots_limit - k = omega arith in
        rw (q, lt-ltb (2 * lots_limit) y (omega arith), ne_eqb y lots_limit (λ z. omega arith))
    go false q =
        let w = ltb-false (lots_limit - 1) k q in
        let v : y ≡ lots_limit - suc k = omega arith in
        rw (q, le-ltb (2 * lots_limit) y (omega arith), ne_eqb y lots_limit (λ z. omega arith))

moved_lots : (u : ℕ) → u < 4_294_967_296 → off_moved ((u + lots_limit) % 4_294_967_296) ≡ bad_lots (signed u)
unfolding signed
moved_lots u h = go (ltb u 2_147_483_648) refl
  where
    go : (b : Bool) → ltb u 2_147_483_648 ≡ b → off_moved ((u + lots_limit) % 4_294_967_296) ≡ bad_lots (signed u)
    go true q =
        let w = ltb-true u 2_147_483_648 q in
        rw q (above u ((u + lots_limit) % 4_294_967_296) (omega arith))
    go false q =
        let w = ltb-false u 2_147_483_648 q in
        rw (q, lt-ltb u 4_294_967_296 h) (below (4_294_967_296 - suc u) ((u + lots_limit) % 4_294_967_296) (omega arith) (omega arith))

-- a position is looked at by its bytes
pub raw_faults_lem : (n : ℕ) (s : List ℕ) (i : ℕ) {w : RawPosition} {r : PositionFaults} → w ≡ raw_position_at (raw_positions_in s) i → w.lots < 4_294_967_296
    → r ≡ raw_faults n w → r ≡ counted_faults n (position_at (positions_in s) i)
raw_faults_lem n s i {w} f h q =
    let p = ap signed_position f ∙ as_signed_position s i in
    q ∙ rw (moved_lots w.lots h) (ap (counted_faults n) p)
