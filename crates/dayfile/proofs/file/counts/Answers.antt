use Rattle.dayfile.specs.Layout.{counts_of}
use Rattle.dayfile.proofs.file.counts.Goals as goal

pub returns : goal.returns
unfolding counts_of
returns c =
    cc
