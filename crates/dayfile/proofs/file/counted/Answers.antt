-- By the length: a file shorter than a header is refused with 1; of another, the limits decide between its counts and a refusal with 2.
use mathlib.Core.Path.{sym, ◌∙◌}
use Rattle.dayfile.proofs.Header.{counted-short, counted-whole}
use Rattle.dayfile.proofs.file.counted.Goals as goal

pub returns-then-s-lt-HEADER : goal.returns-then-s-lt-HEADER
returns-then-s-lt-HEADER c = counted-short _ c.if-s-lt-HEADER.true

pub returns-then-within_limits : goal.returns-then-within_limits
returns-then-within_limits c = counted-whole _ c.if-s-lt-HEADER.false c.counts-d.ensures (sym c.within_limits.ensures ∙ c.if-within_limits.true)

pub returns-else-within_limits : goal.returns-else-within_limits
returns-else-within_limits c = counted-whole _ c.if-s-lt-HEADER.false c.counts-d.ensures (sym c.within_limits.ensures ∙ c.if-within_limits.false)
