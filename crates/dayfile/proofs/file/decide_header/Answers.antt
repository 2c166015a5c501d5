-- By the length: of a file shorter than a header tests 2 and 3 say nothing, so that check 1 decides alone;
-- of another the three tests, one after the other, decide what the checks decide in their order.
use Rattle.dayfile.proofs.Header.{decided_short, decided_whole}
use Rattle.dayfile.proofs.file.decide_header.Goals as goal

pub returns-then-s-lt-HEADER : goal.returns-then-s-lt-HEADER
returns-then-s-lt-HEADER c = decided_short _ _ c.if-s-lt-HEADER.true c.decided_by_tests.ensures

pub returns : goal.returns
returns c =
    decided_whole _ _ c.if-s-lt-HEADER.false c.counts-d.ensures c.within_limits.ensures c.as_laid_out.ensures c.decided_by_tests-2.ensures
