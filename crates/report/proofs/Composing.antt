-- The lines of a sheet as the writers put them together.
use mathlib.Core.Path.{◌≡◌}
use mathlib.Core.List.{◌++◌, append_assoc}
use Prim.Native.Nat.{ℕ}
use lib.IntN.{ℤ}
use Rattle.text.specs.Ascii.{ascii}
use Rattle.text.specs.Decimal.{decimal, signed_decimal}
use Rattle.dayfile.specs.declared.records.Mark.{Mark}
use Rattle.report.specs.Lines.{space, newline, ended, position_line, refusal_line}
use Rattle.report.specs.Writers.{contract_fields, line_end}

pub position_line_lem : (account : ℕ) (m : Mark) (amount : ℤ)
    → ended (decimal account) space ++ contract_fields m ++ (ended (signed_decimal amount) space ++ line_end m) ≡ position_line account m amount
unfolding position_line
position_line_lem account m amount = simp append_assoc

pub refusal_line_lem : (k i : ℕ) → (ascii "refused " ++ ended (decimal k) space) ++ (ascii "at " ++ ended (decimal i) newline) ≡ refusal_line k i
unfolding refusal_line
refusal_line_lem k i = simp append_assoc
