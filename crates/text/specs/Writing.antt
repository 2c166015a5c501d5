-- What writing text into a lent buffer means. A text is the list of its bytes.
use Rattle.std.specs.Prelude.{ℕ, zero, suc, ◌≤◌, ◌≡◌, cond, List, [], ◌++◌, leb, length, drop}

-- a text written from a buffer's start on; the other bytes stay
abbrev pub over : List ℕ → List ℕ → List ℕ
over s out = s ++ drop (length s) out

-- a buffer before and after a text of n bytes was written from its start on
pub record Wrote (s : List ℕ) (n : ℕ) (before after : List ℕ) : Type 0 where
  pub within : n ≤ length before
  pub count : n ≡ length s
  pub written : after ≡ over s before

-- a text that a buffer has room for, and nothing in place of a longer one
unfoldable pub fitted : List ℕ → List ℕ → List ℕ
fitted s out = cond (leb (length s) (length out)) s []

-- what a writer of several parts does, which looks for room at each of them: it stays within the buffer, and where the buffer
-- has room for the whole text, the text is written
pub record Writes (s : List ℕ) (n : ℕ) (before after : List ℕ) : Type 0 where
  pub within : n ≤ length before
  pub kept : length after ≡ length before
  pub whole : length s ≤ length before → Wrote s n before after

-- f 0 .. f (n - 1), one after the other
unfoldable pub texts : (ℕ → List ℕ) → ℕ → List ℕ
texts f zero = []
texts f (suc n) = texts f n ++ f n
