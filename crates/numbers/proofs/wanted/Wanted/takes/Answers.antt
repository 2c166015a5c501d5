use Rattle.numbers.proofs.wanted.Wanted.takes.Goals as goal

pub returns-in-One : goal.returns-in-One
returns-in-One c = rw c.in-One.is
