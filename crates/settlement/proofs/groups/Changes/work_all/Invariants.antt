-- At mark i the entries of the marks before it, those flagged as done and those past the last mark are right. A step makes entry i right,
-- and keeps right what was.
use Rattle.std.proofs.Common.{length}
use Rattle.dayfile.specs.Records.{marks_in}
use Rattle.settlement.specs.SettlingSteps.{changes_of}
use Rattle.settlement.specs.Groups.{last_of}
use Rattle.settlement.proofs.Grouping.{Reached}
use Rattle.settlement.proofs.groups.Changes.work_all.Given as goal

abbrev pub invariant-loop-i : goal.invariant-loop-i
invariant-loop-i l = Reached (changes_of (marks_in l.marks.bytes.now) (last_of l.prices.last.now)) (length (marks_in l.marks.bytes.now)) l.i l.self.change l.self.done
