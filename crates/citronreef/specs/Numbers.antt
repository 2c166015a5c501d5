-- The answers as the structs of numbers that C and Rust are handed.
use Rattle.std.specs.Prelude.{ℕ, pos, Option, Some, None}
use Rattle.pricing.specs.Calls as calls
use Rattle.settlement.specs.Settling as settling
use Rattle.settlement.specs.Prices.{Highest, NoneYet, Numbered}
use Rattle.settlement.specs.OneMark as marks
use Rattle.making.specs.Making as making
use Rattle.citronreef.specs.declared.Quote.{Quote}
use Rattle.citronreef.specs.declared.Outcome.{Outcome}
use Rattle.citronreef.specs.declared.MarkOutcome.{MarkOutcome}
use Rattle.citronreef.specs.declared.Finding.{Finding}
use Rattle.citronreef.specs.declared.Making.{Making}

-- the answer of a call on one contract
abbrev pub quote_of : calls.Answer → Quote
quote_of (calls.given n) = record { refused = 0; number = n }
quote_of (calls.refused k i) = record { refused = k; number = 0 }

-- the answer to a day file
abbrev pub outcome_of : settling.Answer → Outcome
outcome_of (settling.settled n aud nzd k) =
    record { refused = 0; index = 0; positions = n; aud = aud; nzd = nzd; resent = k }
outcome_of (settling.refused k i) =
    record { refused = k; index = i; positions = 0; aud = pos 0; nzd = pos 0; resent = 0 }

-- whether a correction decides, and its number
abbrev pub corrects : Highest → ℕ
corrects NoneYet = 0
corrects (Numbered n p) = 1

abbrev pub number_of : Highest → ℕ
number_of NoneYet = 0
number_of (Numbered n p) = n

-- what is said of one mark
abbrev pub mark_outcome_of : marks.MarkAnswer → MarkOutcome
mark_outcome_of (marks.priced previous last d change) =
    record { refused = 0; index = 0; previous = previous; last = last; corrected = corrects d; number = number_of d; change = change }
mark_outcome_of (marks.refused k i) = record { refused = k; index = i; previous = 0; last = 0; corrected = 0; number = 0; change = pos 0 }

-- what a check finds by itself
abbrev pub finding_of : Option ℕ → Finding
finding_of (Some i) = record { found = 1; index = i }
finding_of None = record { found = 0; index = 0 }

-- the answer of the maker
abbrev pub making_of : making.Answer → Making
making_of (making.made n) = record { refused = 0; index = 0; length = n }
making_of (making.refused k i) = record { refused = k; index = i; length = 0 }
