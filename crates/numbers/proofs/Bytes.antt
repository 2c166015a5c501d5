-- Lists of bytes: what is cut out of them and put together from them.
use Rattle.std.proofs.Common.{◌≡◌, ℕ, zero, suc, ◌+◌, ◌*◌, ◌/◌, ◌%◌, ◌<◌, ◌≤◌, Bool, true, false, ◌&&◌, eqb, List, [], ◌∷◌, ◌++◌, length, get_or, take, drop, sym, refl, ◌∙◌, add-zero, arith, length-drop, length-take, get_or-drop, get_or-take, eqb-true}
use mathlib.Core.List.Memᴰ
use mathlib.Core.List.{Memᴰ}
use native.Mathlib.Decide.{dec_lt}
use lib.ListN.{get_or-eq_default}
use borrow.Author.Tests.{eqb-false}
use Rattle.numbers.specs.Bytes.{Bytes, joined, u32_at, u32_bytes, part, records, bytes_of}
use Rattle.numbers.proofs.Truth.{Tells, tells_and, tells_eq, told, denied}

pub part_bytes : (a n : ℕ) (s : List ℕ) → Bytes s → Bytes (part a n s)
part_bytes a n s b i = go (dec_lt i n)
  where
    go : Dec (i < n) → get_or (part a n s) i 0 < 256
    go (yes h) = rw (get_or-take n (drop a s) i 0 h, get_or-drop a s i 0) (b (a + i))
    go (no h) = rw (get_or-eq_default (part a n s) 0 {n = i} (simp length-take (omega arith))) (omega arith)

pub u32_small : (r : List ℕ) (i : ℕ) → Bytes r → u32_at r i < 4294967296
unfolding u32_at
u32_small r i b = omega (arith, b i, b (i + 1), b (i + 2), b (i + 3))

-- four bytes are joined to one number exactly where they are the same
pub joined_same : {a b c a' b' c' : ℕ} (d d' : ℕ) → a < 256 → b < 256 → c < 256 → a' < 256 → b' < 256 → c' < 256
    → (eqb a a' && eqb b b' && eqb c c' && eqb d d') ≡ eqb (joined a b c d) (joined a' b' c' d')
joined_same {a} {b} {c} {a'} {b'} {c'} d d' h i j h' i' j' = go (eqb (joined a b c d) (joined a' b' c' d')) refl
  where
    each : Tells (eqb a a' && eqb b b' && eqb c c' && eqb d d') ((((a ≡ a') × (b ≡ b')) × (c ≡ c')) × (d ≡ d'))
    each =
        tells_and (eqb a a' && eqb b b' && eqb c c') (eqb d d')
        (tells_and (eqb a a' && eqb b b') (eqb c c') (tells_and (eqb a a') (eqb b b') (tells_eq a a') (tells_eq b b')) (tells_eq c c')) (tells_eq d d')

    go : (t : Bool) → eqb (joined a b c d) (joined a' b' c' d') ≡ t → (eqb a a' && eqb b b' && eqb c c' && eqb d d') ≡ t
    go true e =
        let q : joined a b c d ≡ joined a' b' c' d' = eqb-true (joined a b c d) (joined a' b' c' d') e in
        told (eqb a a' && eqb b b' && eqb c c' && eqb d d') each (((omega arith, omega arith), omega arith), omega arith)
    go false e = denied (eqb a a' && eqb b b' && eqb c c' && eqb d d') each (λ p. eqb-false (joined a b c d) (joined a' b' c' d') e (rw (p.0.0.0, p.0.0.1, p.0.1, p.1)))

pub append-bytes : (s t : List ℕ) → Bytes s → Bytes t → Bytes (s ++ t)
append-bytes [] t h k i = k i
append-bytes (x ∷ s) t h k zero = h 0
append-bytes (x ∷ s) t h k (suc i) = append-bytes s t (λ j. h (suc j)) k i

pub u32_bytes_lem : (n : ℕ) → Bytes (u32_bytes n)
unfolding u32_bytes
u32_bytes_lem n zero = omega arith
u32_bytes_lem n (suc zero) = omega arith
u32_bytes_lem n (suc (suc zero)) = omega arith
u32_bytes_lem n (suc (suc (suc zero))) = omega arith
u32_bytes_lem n (suc (suc (suc (suc i)))) = omega arith

-- each record of a list of bytes is one, and so is a list made of such records
pub record_bytes : (w n : ℕ) (s : List ℕ) → Bytes s → (r : List ℕ) → Memᴰ r (records w n s) → Bytes r
record_bytes w zero s b r m = absurd (Memᴰ.not-nil m)
record_bytes w (suc n) s b r (Memᴰ.head e) = rw e (part_bytes 0 w s b)
record_bytes w (suc n) s b r (Memᴰ.tail m) = record_bytes w n (drop w s) (λ i. rw (get_or-drop w s i 0) (b (w + i))) r m

pub all_bytes : (rs : List (List ℕ)) → ((r : List ℕ) → Memᴰ r rs → Bytes r) → Bytes (bytes_of rs)
all_bytes [] h = λ i. omega arith
all_bytes (r ∷ rs) h = append-bytes r (bytes_of rs) (h r (Memᴰ.head refl)) (all_bytes rs (λ q m. h q (Memᴰ.tail m)))

-- a number from its four bytes
pub from_bytes : (n : ℕ) → n < 4294967296 → n % 256 + 256 * (n / 256 % 256) + 65536 * (n / 256 / 256 % 256) + 16777216 * (n / 256 / 256 / 256 % 256) ≡ n
from_bytes n h = omega arith

-- four bytes from their number
split_again : (a b c d : ℕ) → a < 256 → b < 256 → c < 256 → d < 256 → u32_bytes (joined a b c d) ≡ a ∷ b ∷ c ∷ d ∷ []
unfolding u32_bytes
split_again a b c d ha hb hc hd =
    let p : joined a b c d / 256 ≡ b + 256 * c + 65536 * d = omega arith in
    let q : (b + 256 * c + 65536 * d) / 256 ≡ c + 256 * d = omega arith in
    let r : (c + 256 * d) / 256 ≡ d = omega arith in
    let e : joined a b c d % 256 ≡ a = omega arith in
    let f : (b + 256 * c + 65536 * d) % 256 ≡ b = omega arith in
    let g : (c + 256 * d) % 256 ≡ c = omega arith in
    let h : d % 256 ≡ d = omega arith in
    rw (e, p, f, q, g, r, h)

first_four : (s : List ℕ) → 4 ≤ length s → take 4 s ≡ get_or s 0 0 ∷ get_or s 1 0 ∷ get_or s 2 0 ∷ get_or s 3 0 ∷ []
first_four [] h = absurd (omega arith)
first_four (a ∷ []) h = absurd (omega arith)
first_four (a ∷ b ∷ []) h = absurd (omega arith)
first_four (a ∷ b ∷ c ∷ []) h = absurd (omega arith)
first_four (a ∷ b ∷ c ∷ d ∷ r) h = refl

-- the bytes of a number that was read are those that it was read from
pub u32_again : (s : List ℕ) (i : ℕ) → Bytes s → i + 4 ≤ length s → u32_bytes (u32_at s i) ≡ part i 4 s
unfolding u32_at
u32_again s i b h =
    split_again (get_or s i 0) (get_or s (i + 1) 0) (get_or s (i + 2) 0) (get_or s (i + 3) 0) (b i) (b (i + 1)) (b (i + 2)) (b (i + 3))
    ∙ sym (first_four (drop i s) (rw (length-drop i s) (omega arith)) ∙ simp (get_or-drop, add-zero))
