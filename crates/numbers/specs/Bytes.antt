-- Numbers in bytes, little-endian, and a section's bytes as a list of records. A record is the list of its bytes.
use Rattle.std.specs.Prelude.{ℕ, zero, suc, ◌+◌, ◌*◌, ◌/◌, ◌%◌, ◌<◌, cond, List, [], ◌∷◌, ◌++◌, length, take, drop, ℤ, pos, ◌-ℤ◌, nat_lt, slice_index}

-- the byte at a place, 0 past the end
abbrev pub byte_at : List ℕ → ℕ → ℕ
byte_at s i = slice_index s i

-- a list of bytes: each element is one
abbrev pub Bytes : List ℕ → Type 0
Bytes s = (i : ℕ) → byte_at s i < 256

-- four bytes, the lowest first
abbrev pub joined : ℕ → ℕ → ℕ → ℕ → ℕ
joined a b c d = a + 256 * b + 65_536 * c + 16_777_216 * d

-- the u32 at a place
unfoldable pub u32_at : List ℕ → ℕ → ℕ
u32_at s i = joined (byte_at s i) (byte_at s (i + 1)) (byte_at s (i + 2)) (byte_at s (i + 3))

-- a number's four bytes, the lowest first
unfoldable pub u32_bytes : ℕ → List ℕ
u32_bytes n = n % 256 ∷ n / 256 % 256 ∷ n / 256 / 256 % 256 ∷ n / 256 / 256 / 256 % 256 ∷ []

-- a u32 read in two's complement
unfoldable pub signed : ℕ → ℤ
signed u = cond (nat_lt u 2_147_483_648) (pos u) (pos u -ℤ pos 4_294_967_296)

-- the n bytes from a place on
abbrev pub part : ℕ → ℕ → List ℕ → List ℕ
part a n s = take n (drop a s)

-- the first n records, of w bytes each
abbrev pub records : ℕ → ℕ → List ℕ → List (List ℕ)
records w zero s = []
records w (suc n) s = take w s ∷ records w n (drop w s)

-- the whole records of a section
unfoldable pub records_of : ℕ → List ℕ → List (List ℕ)
records_of w s = records w (length s / w) s

-- the bytes of a list of records
abbrev pub bytes_of : List (List ℕ) → List ℕ
bytes_of [] = []
bytes_of (r ∷ rs) = r ++ bytes_of rs
