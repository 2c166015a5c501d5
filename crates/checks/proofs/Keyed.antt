-- Records have one key exactly where they are of one contract, bear one number, or agree in account and mark.
use Rattle.std.proofs.Common.{◌≡◌, ℕ, ◌+◌, ◌*◌, ◌/◌, ◌<◌, ◌≤◌, Bool, true, false, ◌&&◌, eqb, List, [], map, length, get_or, drop, sym, refl, ◌∙◌, ap₂, arith, eqb-true, Option}
use native.Mathlib.Decide.{dec_lt}
use borrow.Author.Tests.{eqb-false}
use Rattle.numbers.specs.Bytes.{Bytes, part, joined, u32_at, records_of}
use Rattle.numbers.specs.Folds.{repeating, first, front}
use Rattle.numbers.proofs.Bytes.{part_bytes, joined_same, u32_small}
use Rattle.numbers.proofs.Truth.{Tells, tells_and, tells_eq, told, denied}
use Rattle.numbers.proofs.Last.{last-same}
use Rattle.numbers.proofs.Searches.{repeated_same}
use Rattle.numbers.proofs.Sections.{size_is, record_here, record_past}
use Rattle.numbers.proofs.Tables.{entry}
use Rattle.pairs.specs.Keys.{word, key_at, same_key_in, earlier_in, least, looked_at}
use Rattle.pairs.specs.declared.keys.Key.TheVariants.{Four, Eight}
use Rattle.pairs.proofs.Least.{least_first}
use Rattle.pairs.proofs.Records.{key_read, looked_all}
use Rattle.dayfile.specs.Limits.{file_limits}
use Rattle.dayfile.specs.Records.{mark_size, mark_of, marks_in, mark_at, correction_size, correction_of, corrections_in, correction_at}
use Rattle.dayfile.specs.Records.{position_size, position_of, positions_in, position_at}
use Rattle.dayfile.specs.declared.records.Mark.{Mark}
use Rattle.dayfile.specs.declared.records.Correction.{Correction}
use Rattle.dayfile.specs.declared.records.Position.{Position}
use Rattle.checks.specs.Marks.{contract_pair}
use Rattle.checks.specs.Corrections.{number_pair}
use Rattle.checks.specs.Positions.{holding_pair}
use Rattle.checks.specs.Faults.{Lasts}

-- a record of a list of bytes is made of bytes
record OfBytes {R : Type 0} (f : List ℕ → R) (size : ℕ) (s : List ℕ) (i : ℕ) : Type 0 where
  pub from : List ℕ
  pub bytes : Bytes from
  pub is : get_or (map f (records_of size s)) i (f []) ≡ f from

of_bytes : {R : Type 0} (f : List ℕ → R) (size : ℕ) (s : List ℕ) → Bytes s → (i : ℕ) → OfBytes f size s i
of_bytes f size s b i = go (dec_lt i (length s / size))
  where
    go : Dec (i < length s / size) → OfBytes f size s i
    go (yes h) = record { from = part (size * i) size s; bytes = part_bytes (size * i) size s b; is = record_here f size s i h }
    go (no h) = record { from = []; bytes = λ k. omega arith; is = record_past f size s i (omega arith) }

-- ---- marks

-- a mark's fields make a number
abbrev contract_key : Mark → ℕ
contract_key m = joined m.code.0 m.code.1 m.month m.year

mark-key : (s : List ℕ) (i : ℕ) → key_at Four mark_size s i ≡ contract_key (mark_at (marks_in s) i)
unfolding mark_at u32_at
mark-key s i = key_read Four mark_size s mark_of contract_key (λ r. refl) i

contract_keyed : (s : List ℕ) → Bytes s → (i k : ℕ) → same_key_in Four mark_size s i k ≡ contract_pair (marks_in s) i k
unfolding mark_at
contract_keyed s b i k =
    let m = of_bytes mark_of mark_size s b i in
    let n = of_bytes mark_of mark_size s b k in
    rw (mark-key s i, mark-key s k, m.is, n.is) (sym (joined_same _ _ (m.bytes 0) (m.bytes 1) (m.bytes 2) (n.bytes 0) (n.bytes 1) (n.bytes 2)))

-- the first mark with an earlier one's key is the first of an earlier one's contract
pub repeated_mark : (s : List ℕ) → Bytes s → length (marks_in s) ≤ file_limits.marks → {o : Option ℕ}
    → o ≡ first (repeating (same_key_in Four mark_size s)) (looked_at Four mark_size s) → o ≡ first (repeating (contract_pair (marks_in s))) (length (marks_in s))
repeated_mark s b h e =
    let n : length s / mark_size ≤ file_limits.marks = rw (size_is mark_of mark_size s) at h in
    let all : looked_at Four mark_size s ≡ length (marks_in s) = looked_all Four mark_size s (omega arith) (omega arith) ∙ sym (size_is mark_of mark_size s) in
    e ∙ rw all (repeated_same (same_key_in Four mark_size s) (contract_pair (marks_in s)) (contract_keyed s b) (length (marks_in s)))

-- ---- corrections

number-key : (s : List ℕ) (i : ℕ) → key_at Four correction_size s i ≡ (correction_at (corrections_in s) i).number
unfolding correction_at
number-key s i = key_read Four correction_size s correction_of (λ (c : Correction). c.number) (λ r. refl) i

-- an array of the last earlier ones with one key has those with one number
pub last_numbers : (s : List ℕ) → length (corrections_in s) ≤ file_limits.corrections → (b : List ℕ) {a : List ℕ} → length b ≡ file_limits.corrections
    → a ≡ front (earlier_in Four correction_size s) b (least (looked_at Four correction_size s) (length b)) → Lasts (corrections_in s) a
last_numbers s h b size e =
    let n : length s / correction_size ≤ file_limits.corrections = rw (size_is correction_of correction_size s) at h in
    let all : looked_at Four correction_size s ≡ length (corrections_in s) = looked_all Four correction_size s (omega arith) (omega arith) ∙ sym (size_is correction_of correction_size s) in
    record {
      few = h;
      lasts =
          record {
            entry =
                λ i l. rw (e, all, size, ← least_first (length (corrections_in s)) file_limits.corrections h)
                (entry (earlier_in Four correction_size s) (length (corrections_in s)) i (drop (length (corrections_in s)) b) 0 l
                ∙ last-same (same_key_in Four correction_size s i) (number_pair (corrections_in s) i) (λ k. ap₂ eqb (number-key s i) (number-key s k)) i);
          };
    }

-- ---- positions

-- two words make one number exactly where they are the same
words_same : {a b : ℕ} (c d : ℕ) → a < word → b < word → (eqb a b && eqb c d) ≡ eqb (a + word * c) (b + word * d)
words_same {a} {b} c d h k = go (eqb (a + word * c) (b + word * d)) refl
  where
    each : Tells (eqb a b && eqb c d) ((a ≡ b) × (c ≡ d))
    each = tells_and (eqb a b) (eqb c d) (tells_eq a b) (tells_eq c d)

    go : (t : Bool) → eqb (a + word * c) (b + word * d) ≡ t → (eqb a b && eqb c d) ≡ t
    go true e =
        let q : a + word * c ≡ b + word * d = eqb-true (a + word * c) (b + word * d) e in
        told (eqb a b && eqb c d) each (omega arith, omega arith)
    go false e = denied (eqb a b && eqb c d) each (λ p. eqb-false (a + word * c) (b + word * d) e (rw (p.0, p.1)))

-- a position's account and mark make a number
abbrev holding_key : Position → ℕ
holding_key p = p.account + word * p.mark

position_key : (s : List ℕ) (i : ℕ) → key_at Eight position_size s i ≡ holding_key (position_at (positions_in s) i)
unfolding position_at
position_key s i = key_read Eight position_size s position_of holding_key (λ r. refl) i

holding_keyed : (s : List ℕ) → Bytes s → (i k : ℕ) → same_key_in Eight position_size s i k ≡ holding_pair (positions_in s) i k
unfolding position_at
holding_keyed s b i k =
    let p = of_bytes position_of position_size s b i in
    let o = of_bytes position_of position_size s b k in
    rw (position_key s i, position_key s k, p.is, o.is)
    (sym (words_same (u32_at p.from 4) (u32_at o.from 4) (u32_small p.from 0 p.bytes) (u32_small o.from 0 o.bytes)))

-- the first position with an earlier one's key is the first with its account and mark
pub repeated_position : (s : List ℕ) → Bytes s → length (positions_in s) ≤ file_limits.positions → {o : Option ℕ}
    → o ≡ first (repeating (same_key_in Eight position_size s)) (looked_at Eight position_size s)
    → o ≡ first (repeating (holding_pair (positions_in s))) (length (positions_in s))
repeated_position s b h e =
    let n : length s / position_size ≤ file_limits.positions = rw (size_is position_of position_size s) at h in
    let all : looked_at Eight position_size s ≡ length (positions_in s) = looked_all Eight position_size s (omega arith) (omega arith) ∙ sym (size_is position_of position_size s) in
    e ∙ rw all (repeated_same (same_key_in Eight position_size s) (holding_pair (positions_in s)) (holding_keyed s b) (length (positions_in s)))
