-- What a made file is, what the maker answers of three lists, lent as the bytes of their records, and what the lent buffer then holds.
use Rattle.std.specs.Prelude.{Result, Ok, Err, ◌≡◌, List, ℕ, ◌+◌, ◌/◌, length}
use Rattle.numbers.specs.Bytes.{u32_at, part}
use Rattle.numbers.specs.Checks.{decision_of}
use Rattle.faults.specs.Faults.{number_of}
use Rattle.faults.specs.declared.refusal.Refusal.{Refusal}
use Rattle.dayfile.specs.Limits.{Limits}
use Rattle.dayfile.specs.Records.{mark_size, correction_size, position_size}
use Rattle.dayfile.specs.Layout.{header_size}
use Rattle.dayfile.specs.Making.{made_of}
use Rattle.text.specs.Writing.{over}
use Rattle.making.specs.Conditions.{making_checks}
use Rattle.numbers.specs.Order.{Decision, Met, Unmet}

-- a file with its three lists, by its bytes alone: the counts and offsets of its header, each list from its own offset on, and its end
pub record DayFileOf (f ms cs ps : List ℕ) : Type 0 where
  pub mark-count : u32_at f 0 ≡ length ms / mark_size
  pub marks_offset : u32_at f 4 ≡ header_size
  pub correction_count : u32_at f 8 ≡ length cs / correction_size
  pub corrections_offset : u32_at f 12 ≡ header_size + length ms
  pub position_count : u32_at f 16 ≡ length ps / position_size
  pub positions_offset : u32_at f 20 ≡ header_size + length ms + length cs
  pub marks : part (u32_at f 4) (length ms) f ≡ ms
  pub corrections : part (u32_at f 12) (length cs) f ≡ cs
  pub positions : part (u32_at f 20) (length ps) f ≡ ps
  pub file-length : length f ≡ header_size + length ms + length cs + length ps

-- the answer of the maker: the file's length; or a check's number and a record's index
pub data Answer : Type 0 where
  made : ℕ → Answer
  refused : ℕ → ℕ → Answer

-- what an answer of the code says
abbrev pub said : Result ℕ Refusal → Answer
said (Ok n) = made n
said (Err r) = refused (number_of r.fault) r.index

-- by what the checks decide, of a file
abbrev pub answer_by : List ℕ → Decision → Answer
answer_by file (Met k i) = refused k i
answer_by file Unmet = made (length file)

-- the file stands at the buffer's start, and the other bytes stay; a refusal writes nothing
abbrev pub buffer_by : List ℕ → List ℕ → Decision → List ℕ
buffer_by file out (Met k i) = out
buffer_by file out Unmet = over file out

-- the answer to three lists, for a buffer of so many bytes, and the buffer after it
unfoldable pub answer_of : Limits → List ℕ → List ℕ → List ℕ → ℕ → Answer
answer_of l ms cs ps room = answer_by (made_of ms cs ps) (decision_of (making_checks ms cs ps l room))

unfoldable pub buffer_after : Limits → List ℕ → List ℕ → List ℕ → List ℕ → List ℕ
buffer_after l ms cs ps out = buffer_by (made_of ms cs ps) out (decision_of (making_checks ms cs ps l (length out)))
