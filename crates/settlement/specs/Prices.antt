-- The final price of a mark, and its change in value.
use Rattle.std.specs.Prelude.{◌≡◌, ◌≢◌, ℕ, zero, suc, ◌≤◌, ◌<◌, cond, List, leb, eqb, ℤ, pos, ◌-ℤ◌, length}
use Rattle.settlement.specs.ContractValue.{value_or_zero}
use Rattle.dayfile.specs.Records.{mark_at, correction_at}
use Rattle.dayfile.specs.declared.records.Mark.{Mark}
use Rattle.dayfile.specs.declared.records.Correction.{Correction}

-- a mark's highest-numbered correction so far, its number and its price
pub data Highest : Type 0 where
  NoneYet : Highest
  Numbered : ℕ → ℕ → Highest

-- of two corrections the one with the higher number, the later one where they are equal
abbrev pub higher_of : Highest → Correction → Highest
higher_of NoneYet c = Numbered c.number c.price
higher_of (Numbered n p) c = cond (leb n c.number) (Numbered c.number c.price) (Numbered n p)

-- after a correction, which may be of another mark
abbrev pub after_of : ℕ → Highest → Correction → Highest
after_of m d c = cond (eqb c.mark m) (higher_of d c) d

-- of the first n corrections, the highest-numbered that names the mark m
unfoldable pub highest_of : List Correction → ℕ → ℕ → Highest
highest_of cs m zero = NoneYet
highest_of cs m (suc n) = after_of m (highest_of cs m n) (correction_at cs n)

abbrev pub or_today : Highest → ℕ → ℕ
or_today NoneYet p = p
or_today (Numbered n price) p = price

-- the final price of the mark m
unfoldable pub final_of : List Mark → List Correction → ℕ → ℕ
final_of ms cs m = or_today (highest_of cs m (length cs)) (mark_at ms m).today

-- the same in document 01's words: the price of a correction that names the mark and bears the highest number of those that do,
-- and today's price where none names it
pub data FinalPrice (ms : List Mark) (cs : List Correction) (m p : ℕ) : Type 0 where
  corrected : (k : ℕ) → k < length cs → (correction_at cs k).mark ≡ m → (correction_at cs k).price ≡ p
      → ((j : ℕ) → j < length cs → (correction_at cs j).mark ≡ m → (correction_at cs j).number ≤ (correction_at cs k).number)
      → FinalPrice ms cs m p
  uncorrected : ((k : ℕ) → k < length cs → (correction_at cs k).mark ≢ m) → (mark_at ms m).today ≡ p → FinalPrice ms cs m p

-- the correction that decides, in the same words: d is none where none of the first n corrections names the mark m, else the
-- highest-numbered that does
pub data DecidingCorrection (cs : List Correction) (m n : ℕ) (d : Highest) : Type 0 where
  none : d ≡ NoneYet → ((k : ℕ) → k < n → (correction_at cs k).mark ≢ m) → DecidingCorrection cs m n d
  highest : (k : ℕ) → k < n → (correction_at cs k).mark ≡ m → d ≡ Numbered (correction_at cs k).number (correction_at cs k).price
      → ((j : ℕ) → j < n → (correction_at cs j).mark ≡ m → (correction_at cs j).number ≤ (correction_at cs k).number)
      → DecidingCorrection cs m n d

-- each correction of cs stands in ds
abbrev pub AllIn : List Correction → List Correction → Type 0
AllIn cs ds = (i : ℕ) → i < length cs → (j : ℕ) × (j < length ds) × (correction_at ds j ≡ correction_at cs i)

-- the value of one contract of a mark
abbrev pub value_at : Mark → ℕ → ℕ
value_at m p = value_or_zero m.code p

-- the value of a mark at the final price less the value at the previous price
unfoldable pub change_of : List Mark → (ℕ → ℕ) → ℕ → ℤ
change_of ms final m = pos (value_at (mark_at ms m) (final m)) -ℤ pos (value_at (mark_at ms m) (mark_at ms m).previous)
