-- At position i the lines of the first i positions are written, where there is room for them. With the words at a mark's place a line is
-- the mark's (`line-here`).
use Rattle.numbers.specs.Integers.{entry_of}
use Rattle.dayfile.specs.Records.{marks_in, positions_in}
use Rattle.text.specs.Writing.{Writes, texts}
use Rattle.report.specs.Lines.{line_at}
use Rattle.report.proofs.positions.write_positions.Given as goal

abbrev pub invariant-loop-i : goal.invariant-loop-i
invariant-loop-i l = Writes (texts (line_at (marks_in l.marks) (positions_in l.positions) (entry_of l.amounts)) l.i) l.at l.initial.out l.out
