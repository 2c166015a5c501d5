-- What one check finds in a file by itself, whatever the others say.
use Rattle.std.specs.Prelude.{ℕ, Bool, true, false, List, length, nat_lt, Option}
use Rattle.numbers.specs.Checks.{Checks, finding_by}
use Rattle.dayfile.specs.Limits.{Limits}
use Rattle.dayfile.specs.Layout.{header_size, counts_of}
use Rattle.dayfile.specs.Opening.{within_limits, looked_at}
use Rattle.checks.specs.Judging.{file_checks}

-- the checks that a file is looked at by: all of them, where its header stands whole and no count is above its limit
abbrev pub looked : Limits → List ℕ → Bool → Bool → Checks
looked l f true inside = looked_at l f true
looked l f false false = looked_at l f false
looked l f false true = file_checks l f

abbrev pub checks_of : Limits → List ℕ → Checks
checks_of l f = looked l f (nat_lt (length f) header_size) (within_limits l (counts_of f))

-- the first record where the condition of check k holds
unfoldable pub found_of : Limits → List ℕ → ℕ → Option ℕ
found_of l f k = finding_by (checks_of l f) k
