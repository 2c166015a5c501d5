-- At mark m the first m places hold their marks' prices of today.
use Rattle.numbers.specs.Folds.{Filled}
use Rattle.dayfile.specs.Records.{marks_in}
use Rattle.settlement.specs.SettlingSteps.{today_of}
use Rattle.settlement.proofs.prices.todays.Given as goal

abbrev pub invariant-loop-m : goal.invariant-loop-m
invariant-loop-m l = Filled 0 (today_of (marks_in l.marks.bytes.now)) l.m l.price
