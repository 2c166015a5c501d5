-- The number of each fault, and what a refusal says by it.
use Rattle.std.specs.Prelude.{◌≡◌, ℕ, Result, Ok, Err}
use Rattle.numbers.specs.Order.{Decision, Met, Unmet}
use Rattle.faults.specs.declared.fault.Fault.{Fault}
use Rattle.faults.specs.declared.fault.Fault.TheVariants.{ShortFile, AboveLimits, Layout, UnlistedCode, Date, HighPrice, OffTick, RepeatedMark, CorrectionMark, CorrectionPrice, CorrectionClash, PositionMark, Lots, Places, NextPrice, RepeatedPosition, Room}
use Rattle.faults.specs.declared.refusal.Refusal.{Refusal}

abbrev pub number_of : Fault → ℕ
number_of ShortFile = 1
number_of AboveLimits = 2
number_of Layout = 3
number_of UnlistedCode = 4
number_of Date = 5
number_of HighPrice = 6
number_of OffTick = 7
number_of RepeatedMark = 8
number_of CorrectionMark = 9
number_of CorrectionPrice = 10
number_of CorrectionClash = 11
number_of PositionMark = 12
number_of Lots = 13
number_of Places = 14
number_of NextPrice = 15
number_of RepeatedPosition = 16
number_of Room = 17

-- what a conversion gives
abbrev pub numbers : Fault → ℕ → Type 0
numbers fault n = n ≡ number_of fault

abbrev pub at_start : Fault → Refusal → Type 0
at_start fault r = r ≡ record { fault = fault; index = 0 }

-- what an answer of the code says: that nothing is met, or the number and the record of a refusal
abbrev pub said : {T : Type 0} → Result T Refusal → Decision
said (Ok x) = Unmet
said (Err r) = Met (number_of r.fault) r.index
