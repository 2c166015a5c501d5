-- "Sent again" and "brought into line", as document 01 has them.
use Rattle.std.specs.Prelude.{◌≡◌, ℕ, suc, ◌+◌, ◌*◌, length}
use mathlib.Core.List.{List, [], ◌∷◌, Memᴰ}
use Rattle.numbers.specs.Bytes.{u32_at, records_of}
use Rattle.dayfile.specs.Records.{correction_size}
use Rattle.dayfile.specs.Layout.{counts_of, mark_bytes, correction_bytes, position_bytes}

-- copies of records of `base` are put anywhere into a list, whose records keep their order; the number is how many copies
pub data SentAgain (base : List (List ℕ)) : List (List ℕ) → List (List ℕ) → ℕ → Type 0 where
  end : SentAgain base [] [] 0
  kept : {c : List ℕ} {cs ds : List (List ℕ)} {k : ℕ} → SentAgain base cs ds k → SentAgain base (c ∷ cs) (c ∷ ds) k
  copy : {c : List ℕ} {cs ds : List (List ℕ)} {k : ℕ} → Memᴰ c base → SentAgain base cs ds k → SentAgain base cs (c ∷ ds) (suc k)

-- the corrections of a file, each as its bytes
abbrev pub correction_records : List ℕ → List (List ℕ)
correction_records f = records_of correction_size (correction_bytes f (counts_of f))

-- g is the file f with copies of its corrections sent again, brought into line
pub record Resent (f g : List ℕ) (copies : ℕ) : Type 0 where
  pub corrections : SentAgain (correction_records f) (correction_records f) (correction_records g) copies
  pub marks : mark_bytes g (counts_of g) ≡ mark_bytes f (counts_of f)
  pub positions : position_bytes g (counts_of g) ≡ position_bytes f (counts_of f)
  pub mark-count : u32_at g 0 ≡ u32_at f 0
  pub correction_count : u32_at g 8 ≡ u32_at f 8 + copies
  pub position_count : u32_at g 16 ≡ u32_at f 16
  pub marks_offset : u32_at g 4 ≡ u32_at f 4
  pub corrections_offset : u32_at g 12 ≡ u32_at f 12
  pub positions_offset : u32_at g 20 ≡ u32_at f 20 + correction_size * copies
  pub file-length : length g ≡ length f + correction_size * copies
