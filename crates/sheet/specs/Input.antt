-- What reading the input promises. The bytes that a reader will give are known of some readers; of the others `Holds` says nothing.
use Rattle.std.specs.Prelude.{ℕ, ◌≤◌, ◌<◌, ◌≡◌, List, Option, Result, length, take, IfOk}
use Rattle.std.specs.Io.KnownBytes.{Consumes, IsAtEnd}

-- the count is within the buffer
abbrev pub InBuffer : {E : Type 0} → Result ℕ E → List ℕ → Type 0
InBuffer r file = IfOk r (λ n. (n ≤ length file) × (n ≡ length (take n file)))

-- the bytes in the buffer are the first that the reader had, and the buffer has room left only where the reader has none left
abbrev pub Holds : {E : Type 0} → Result ℕ E → Option (List ℕ) → Option (List ℕ) → List ℕ → Type 0
Holds r old new file = IfOk r (λ n. Consumes old new (take n file) × (n < length file → IsAtEnd new))
