-- At step i the first i bytes are the text's, and the others are the buffer's own.
use Rattle.std.proofs.Common.{◌≡◌, ◌++◌, take, drop}
use Rattle.text.proofs.copying.write_text.Given as goal

abbrev pub invariant-loop-i : goal.invariant-loop-i
invariant-loop-i l = l.out ≡ take l.i l.text ++ drop l.i l.initial.out
