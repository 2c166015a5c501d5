-- How long a line can be, and how large the fields of a record of bytes.
use mathlib.Core.Path.{◌≡◌, refl}
use mathlib.Core.List.{List, [], map}
use Prim.Native.Nat.{ℕ, ◌*◌, ◌/◌, ◌^◌, ◌≤◌, ◌<◌}
use native.Mathlib.Decide.{dec_lt}
use native.Mathlib.Omega.{arith}
use lib.IntN.{ℤ, nat_abs}
use lib.ListN.{length, get_or, length-append}
use Rattle.text.proofs.Decimals.{decimal-length, signed-length}
use Rattle.products.specs.declared.table.Currency.{Currency}
use Rattle.products.specs.declared.table.Currency.TheVariants.{Aud, Nzd}
use Rattle.numbers.specs.Bytes.{Bytes, part, records_of}
use Rattle.dayfile.specs.Records.{mark_of, position_of, marks_in, positions_in, mark_at, position_at, mark_size, position_size}
use Rattle.products.specs.Products.{currency_of}
use Rattle.dayfile.specs.declared.records.Mark.{Mark}
use Rattle.numbers.proofs.Bytes.{part_bytes}
use Rattle.numbers.proofs.Sections.{record_here, record_past}
use Rattle.report.specs.Lines.{letters_of, position_line, total_line, resent_line, refusal_line}
use Rattle.report.specs.Sheet.{totals_text, line_size, answer_size}

-- ---- the fields of a record of bytes

-- x is read from a record of bytes
pub record Read {R : Type 0} (f : List ℕ → R) (x : R) : Type 0 where
  pub bytes : List ℕ
  pub small : Bytes bytes
  pub is : x ≡ f bytes

pub read_at : {R : Type 0} (f : List ℕ → R) (w : ℕ) (t : List ℕ) (j : ℕ) → Bytes t → Read f (get_or (map f (records_of w t)) j (f []))
read_at f w t j b = go (dec_lt j (length t / w))
  where
    go : Dec (j < length t / w) → Read f (get_or (map f (records_of w t)) j (f []))
    go (yes h) = record { bytes = part (w * j) w t; small = part_bytes (w * j) w t b; is = record_here f w t j h }
    go (no h) = record { bytes = []; small = λ i. omega arith; is = record_past f w t j (omega arith) }

pub mark_read : (t : List ℕ) (j : ℕ) → Bytes t → Read mark_of (mark_at (marks_in t) j)
unfolding mark_at
mark_read t j b = read_at mark_of mark_size t j b

pub position_read : (t : List ℕ) (j : ℕ) → Bytes t → Read position_of (position_at (positions_in t) j)
unfolding position_at
position_read t j b = read_at position_of position_size t j b

-- ---- the lines

pub letters_length : (c : Currency) → length (letters_of c) ≡ 3
unfolding letters_of
letters_length Aud = refl
letters_length Nzd = refl

pub line-length : (account : ℕ) (m : Mark) (amount : ℤ) → account < 4294967296 → m.month < 256 → m.year < 256 → nat_abs amount < 10 ^ 19
    → length (position_line account m amount) ≤ line_size
unfolding position_line
line-length account m amount a b c d =
    simp length-append
    (omega (
      arith,
      letters_length (currency_of m.code),
      decimal-length 9 account (omega arith),
      decimal-length 2 m.month (omega arith),
      decimal-length 2 m.year (omega arith),
      signed-length 18 amount d,
    ))

pub totals-length : (aud nzd : ℤ) (k : ℕ) → nat_abs aud < 10 ^ 19 → nat_abs nzd < 10 ^ 19 → k < 10 ^ 20 → length (totals_text aud nzd k) ≤ answer_size
unfolding total_line resent_line
totals-length aud nzd k a b c = simp length-append (omega (arith, signed-length 18 aud a, signed-length 18 nzd b, decimal-length 19 k c))

pub refusal_length : (k i : ℕ) → k < 10 ^ 20 → i < 10 ^ 20 → length (refusal_line k i) ≤ answer_size
unfolding refusal_line
refusal_length k i a b = simp length-append (omega (arith, decimal-length 19 k a, decimal-length 19 i b))
