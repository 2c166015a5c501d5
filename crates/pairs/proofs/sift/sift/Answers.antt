-- The same for keys of four bytes and of eight.
use Rattle.pairs.proofs.sift.sift.Goals as goal

pub sift_by_one-requires : goal.sift_by_one-requires
sift_by_one-requires g c = rw c.of_width.ensures.1 c.requires

pub sift_by_one-requires-in-Eight : goal.sift_by_one-requires-in-Eight
sift_by_one-requires-in-Eight g c = rw c.of_width-in-Eight.ensures.1 c.requires

pub returns-in-Four : goal.returns-in-Four
returns-in-Four g c = rw (c.of_width.ensures.0, c.of_width.ensures.1) at c.sift_by_one.ensures

pub returns-in-Eight : goal.returns-in-Eight
returns-in-Eight g c = rw (c.of_width-in-Eight.ensures.0, c.of_width-in-Eight.ensures.1) at c.sift_by_one-in-Eight.ensures
