-- At mark i the words of the first i marks are written, one after the other, where there is room for them.
use Rattle.dayfile.specs.Records.{marks_in}
use Rattle.text.specs.Writing.{Writes, texts}
use Rattle.report.specs.Writers.{words_at}
use Rattle.report.proofs.words.write_words.Given as goal

abbrev pub invariant-loop-i : goal.invariant-loop-i
invariant-loop-i l = Writes (texts (words_at (marks_in l.marks)) l.i) l.at l.initial.out l.out
