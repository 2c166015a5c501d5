-- The sheet of a day file: a line for each position of an accepted file, in file order, and the lines of the answer.
use Rattle.std.specs.Prelude.{ℕ, ◌+◌, ◌*◌, cond, List, [], ◌++◌, leb, ℤ, length}
use Rattle.text.specs.Writing.{texts}
use Rattle.dayfile.specs.Limits.{file_limits}
use Rattle.settlement.specs.Settling.{Answer, settled, refused, Plan, accept, refuse, plan_of, answer_of, amounts_after, amount_of, change_in}
use Rattle.report.specs.Lines.{AUD, NZD, line_at, total_line, resent_line, refusal_line}

-- the totals in Australian and in New Zealand cents, and the resent count
abbrev pub totals_text : ℤ → ℤ → ℕ → List ℕ
totals_text aud nzd k = total_line AUD aud ++ total_line NZD nzd ++ resent_line k

-- the totals and the resent count, or the refusal
unfoldable pub answer_text : Answer → List ℕ
answer_text (settled n aud nzd k) = totals_text aud nzd k
answer_text (refused k i) = refusal_line k i

-- the lines of the positions that are settled
unfoldable pub positions_text : Plan → List ℕ
positions_text (refuse k i) = []
positions_text (accept ls) = texts (line_at ls.marks ls.positions (amount_of ls.positions (change_in ls))) (length ls.positions)

-- the sheet of a file, settled into a slice of so many places
unfoldable pub sheet_of : List ℕ → ℕ → List ℕ
sheet_of file places = positions_text (plan_of file_limits file places) ++ answer_text (answer_of file_limits file places)

-- ---- sizes in bytes

-- no line of a position is longer: account 10, code 2, month 3, year 3, amount 20, currency 3, and a byte after each
abbrev pub line_size : ℕ
line_size = 47

-- no answer is longer: two totals of 31, and 28 for the resent count
abbrev pub answer_size : ℕ
answer_size = 90

-- no sheet is longer
abbrev pub sheet_size : ℕ
sheet_size = line_size * file_limits.positions + answer_size

-- the sheet, for a buffer of so many bytes: with less than this nothing is written, neither sheet nor amounts
unfoldable pub sheet_within : ℕ → List ℕ → ℕ → List ℕ
sheet_within room file places = cond (leb sheet_size room) (sheet_of file places) []

unfoldable pub amounts_within : ℕ → List ℕ → List ℤ → List ℤ
amounts_within room file a = cond (leb sheet_size room) (amounts_after file_limits file a) a
