-- Where all are listed none is sifted yet.
use Rattle.pairs.proofs.Turns.{sifts-none}
use Rattle.pairs.proofs.sift.to_sift.Goals as goal

pub returns-in-Some : goal.returns-in-Some
returns-in-Some c = record { sifts = λ key w. rw c.in-Some.is at w }

pub returns : goal.returns
returns c = record { sifts = λ key _. rw c.list_all.auto.list (sifts-none c.list_all.ensures) }
