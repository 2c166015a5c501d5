-- At mark m the first m places have their marks' currencies.
use Rattle.std.proofs.Common.{◌≡◌, length}
use Rattle.products.specs.declared.table.Currency.TheVariants.{Aud}
use Rattle.numbers.specs.Folds.{Filled}
use Rattle.dayfile.specs.Limits.{file_limits}
use Rattle.dayfile.specs.Records.{marks_in}
use Rattle.settlement.specs.SettlingSteps.{currency_at}
use Rattle.settlement.proofs.amounts.currencies.Given as goal

abbrev pub invariant-loop-m : goal.invariant-loop-m
invariant-loop-m l = (length l.r ≡ file_limits.marks) × Filled Aud (currency_at (marks_in l.marks.bytes.now)) l.m l.r
