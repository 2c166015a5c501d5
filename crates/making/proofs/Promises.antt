-- What the maker promises. `answer_of l ms cs ps room` is its answer to three lists, lent as the bytes of their records, for a buffer of so
-- many bytes, and `buffer_after l ms cs ps out` the buffer afterwards that was out before: the contract of `make` says that its answer and its
-- buffer are these, for the limits `file_limits`.
use mathlib.Core.Path.{◌≡◌, refl, sym, ◌∙◌}
use mathlib.Core.List.{List, [], ◌∷◌, ◌++◌, map}
use mathlib.Core.Logic.{◌↔◌, ◌≢◌}
use Prim.Native.Nat.{ℕ, ◌+◌, ◌/◌, ◌≤◌}
use lib.ListN.{length, take, drop}
use Rattle.numbers.specs.Bytes.{Bytes}
use Rattle.numbers.specs.Checks.{number_of}
use Rattle.dayfile.specs.Limits.{Limits, file_limits}
use Rattle.dayfile.specs.Records.{mark_size, correction_size, position_size, mark_of, correction_of, position_of, lists_of}
use Rattle.dayfile.specs.Layout.{header_size, counts_of, mark_bytes, correction_bytes, position_bytes}
use Rattle.dayfile.specs.Making.{made_of}
use Rattle.dayfile.specs.declared.file.DayFile.{DayFile}
use Rattle.dayfile.proofs.Made.{made-is-bytes}
use Rattle.numbers.proofs.Sections.{size_is}
use Rattle.checks.specs.Corrections.{resent_of}
use Rattle.checks.specs.Judging.{judged_of}
use Rattle.checks.specs.Judging.{Passed}
use Rattle.making.specs.Conditions.{making_checks, NotMade, CanBeMade}
use Rattle.making.specs.Making.{DayFileOf, Answer, made, refused, answer_of, buffer_after}
use Rattle.checks.proofs.Refusals.{judged_passes}
use Rattle.making.proofs.RoundTrip as trip

-- ---- the answer

-- The answer is a refusal with number k at record i exactly where check k's condition holds at i, at no record before it, and no earlier check's
-- condition holds at any record.
pub make_refuses : (l : Limits) (ms cs ps : List ℕ) (room : ℕ) {k i : ℕ} → (answer_of l ms cs ps room ≡ refused k i) ↔ NotMade ms cs ps l room k i
make_refuses l ms cs ps room = trip.refused_exactly l ms cs ps room

-- The file is made, and the answer is its length, exactly where no condition holds at any record.
pub make_makes : (l : Limits) (ms cs ps : List ℕ) (room : ℕ) → (answer_of l ms cs ps room ≡ made (length (made_of ms cs ps))) ↔ CanBeMade ms cs ps l room
make_makes l ms cs ps room = trip.made_exactly l ms cs ps room

-- The checks, in their order.
pub numbers_in_order : (l : Limits) (ms cs ps : List ℕ) (room : ℕ)
    → map (number_of (making_checks ms cs ps l room)) (making_checks ms cs ps l room).order ≡ 2 ∷ 3 ∷ 4 ∷ 5 ∷ 6 ∷ 7 ∷ 8 ∷ 9 ∷ 10 ∷ 11 ∷ 12 ∷ 13 ∷ 16 ∷ 17 ∷ []
numbers_in_order l ms cs ps room = refl

-- A list's count, by which 2 goes, is its length over the record's, rounded down.
pub counts_rounded_down : (ms cs ps : List ℕ)
    → (length (lists_of ms cs ps).marks ≡ length ms / mark_size) × (length (lists_of ms cs ps).corrections ≡ length cs / correction_size)
    × (length (lists_of ms cs ps).positions ≡ length ps / position_size)
counts_rounded_down ms cs ps = (size_is mark_of mark_size ms, size_is correction_of correction_size cs, size_is position_of position_size ps)

-- ---- the buffer

-- a refusal leaves the buffer as it was; a file of n bytes leaves its length and the bytes from n on
abbrev pub Leaves : Answer → List ℕ → List ℕ → Type 0
Leaves (refused k i) before after = after ≡ before
Leaves (made n) before after = (n ≤ length before) × (length after ≡ length before) × (drop n after ≡ drop n before)

pub make_leaves : (l : Limits) (ms cs ps out : List ℕ) → Leaves (answer_of l ms cs ps (length out)) out (buffer_after l ms cs ps out)
make_leaves l ms cs ps out = by_answer (answer_of l ms cs ps (length out)) refl
  where
    by_answer : (x : Answer) → answer_of l ms cs ps (length out) ≡ x → Leaves x out (buffer_after l ms cs ps out)
    by_answer (refused k i) e = trip.refusal_leaves l ms cs ps out e
    by_answer (made n) e = (trip.has_room l ms cs ps out e, trip.length-kept l ms cs ps out e, trip.rest-kept l ms cs ps out e)

-- For an answer of n bytes: `file` is what stands in the first n places of the buffer.
module _ (ms cs ps out : List ℕ) {n : ℕ} (e : answer_of file_limits ms cs ps (length out) ≡ made n) where
  abbrev pub file : List ℕ
  file = take n (buffer_after file_limits ms cs ps out)

  -- It is the file of the three lists: the counts and offsets stand in its header, each list from its own offset on, and it ends after the last
  -- position.
  pub made-file : DayFileOf file ms cs ps
  made-file = rw (trip.file_stands file_limits ms cs ps out e) (trip.made_laid_out ms cs ps (trip.fits ms cs ps out e).whole)

  -- Its length is the answer.
  pub made-length : n ≡ header_size + length ms + length cs + length ps
  made-length =
      let (u, long) = trip.made_decided file_limits ms cs ps (length out) e in
      sym long ∙ (trip.made_laid_out ms cs ps (trip.fits ms cs ps out e).whole).file-length

  -- It is a file of bytes where the lists are: so its header's bytes are those of the six numbers, and no others.
  pub made_bytes : Bytes ms → Bytes cs → Bytes ps → Bytes file
  made_bytes m c p = rw (trip.file_stands file_limits ms cs ps out e) (made-is-bytes ms cs ps m c p)

  -- Reading it returns the three lists, byte for byte,
  pub reading_made : (mark_bytes file (counts_of file) ≡ ms) × (correction_bytes file (counts_of file) ≡ cs) × (position_bytes file (counts_of file) ≡ ps)
  reading_made = let r = trip.reads ms cs ps out e in (r.marks, r.corrections, r.positions)

  -- and it passes checks 1 to 13 and 16.
  pub made_passes : judged_of file_limits file ≡ Passed (counts_of file) (resent_of (lists_of ms cs ps).corrections)
  unfolding judged_of
  made_passes = let r = trip.reads ms cs ps out e in rw (r.passed, r.corrections)

-- ---- the longest file

-- No file that is made has more than 58,392 bytes,
pub made-within : (ms cs ps out : List ℕ) {n : ℕ} → answer_of file_limits ms cs ps (length out) ≡ made n → n ≤ 58392
made-within ms cs ps out e =
    rw (← (trip.made_decided file_limits ms cs ps (length out) e).1) (trip.longest ms cs ps (trip.fits ms cs ps out e).whole)

-- and a buffer of as many is never too short.
pub room_enough : (ms cs ps : List ℕ) (room : ℕ) → 58392 ≤ room → {i : ℕ} → answer_of file_limits ms cs ps room ≢ refused 17 i
room_enough ms cs ps room enough = trip.room_enough ms cs ps room enough

-- ---- a file made again

-- Making a file from the lists of a file of bytes that passes checks 1 to 13 and 16, into any buffer at least as long, returns its length and
-- its bytes; the other bytes stay.
pub making_again : (f out : List ℕ) {c : DayFile} {resent : ℕ} → Bytes f → judged_of file_limits f ≡ Passed c resent → length f ≤ length out
    → let d = counts_of f in
    (answer_of file_limits (mark_bytes f d) (correction_bytes f d) (position_bytes f d) (length out) ≡ made (length f))
    × (buffer_after file_limits (mark_bytes f d) (correction_bytes f d) (position_bytes f d) out ≡ f ++ drop (length f) out)
making_again f out b p room = trip.makes_again f out b (judged_passes file_limits f p) room
