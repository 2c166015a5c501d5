use native.Mathlib.Omega.{arith}
use mathlib.Core.Path.{◌≡◌}
use lib.ListN.{length}
use Rattle.dayfile.specs.Records.{marks_in}
use Rattle.text.specs.Writing.{texts}
use Rattle.text.proofs.Writing.{fitted_writes, writes_none, writes_more}
use Rattle.report.specs.Writers.{words_at}
use Rattle.report.proofs.words.write_words.Goals as goal

pub loop-i-init : goal.loop-i-init
unfolding texts
loop-i-init c = writes_none _

pub loop-i-preserved : goal.loop-i-preserved
loop-i-preserved c =
    writes_more _ c.loop-i.i c.loop-i.invariant
    (fitted_writes (words_at (marks_in c.args.marks.now) c.loop-i.i)
    (rw c.words_of-words.ensures at c.write_text-at.ensures))

pub shape_of-out : goal.shape_of-out
shape_of-out c = c.loop-i.invariant.kept

pub returns : goal.returns
returns c =
    let e : c.loop-i.i ≡ length (marks_in c.args.marks.now) = omega arith in rw (← e) c.loop-i.invariant
