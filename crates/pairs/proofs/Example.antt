-- Three records of twelve bytes: the second agrees with the first in four bytes, the third in eight.
use Rattle.std.proofs.Common.{◌≡◌, ℕ, List, [], ◌∷◌, refl, Some, None}
use Rattle.numbers.specs.Bytes.{u32_at, records_of}
use Rattle.numbers.specs.Folds.{first, last, some, repeating}
use Rattle.pairs.specs.Keys.{key_at, same_key_in, earlier_in, looked_at}
use Rattle.pairs.specs.declared.keys.Key.TheVariants.{Four, Eight}

unfoldable pub three : List ℕ
three =
    11 ∷ 0 ∷ 0 ∷ 0 ∷ 1 ∷ 0 ∷ 0 ∷ 0 ∷ 9 ∷ 9 ∷ 9 ∷ 9
    ∷ 11 ∷ 0 ∷ 0 ∷ 0 ∷ 1 ∷ 0 ∷ 0 ∷ 1 ∷ 9 ∷ 9 ∷ 9 ∷ 9
    ∷ 11 ∷ 0 ∷ 0 ∷ 0 ∷ 1 ∷ 0 ∷ 0 ∷ 0 ∷ 8 ∷ 9 ∷ 9 ∷ 9 ∷ []

pub keys_are : (key_at Four 12 three 1 ≡ 11) × (key_at Eight 12 three 0 ≡ 4_294_967_307) × (key_at Eight 12 three 1 ≡ 72_057_598_332_895_243)
unfolding key_at three u32_at records_of
keys_are = (refl, refl, refl)

-- the first that repeats an earlier key, by four bytes, by eight, and by eight of the first two records; and the last earlier one of the third
pub repeats_are : (first (repeating (same_key_in Four 12 three)) (looked_at Four 12 three) ≡ Some 1)
    × (first (repeating (same_key_in Eight 12 three)) (looked_at Eight 12 three) ≡ Some 2)
    × (first (repeating (same_key_in Eight 12 three)) 2 ≡ None)
    × (earlier_in Four 12 three 2 ≡ 2) × (earlier_in Eight 12 three 2 ≡ 1)
unfolding key_at looked_at three u32_at records_of first last some
repeats_are = (refl, refl, refl, refl, refl)

-- no record is looked at that is shorter than its key
pub short-records : looked_at Eight 4 three ≡ 0
unfolding looked_at
short-records = refl
