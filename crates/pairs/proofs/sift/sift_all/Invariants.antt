-- What is right for those that are left at a turn is so, with what was found, for all.
use Rattle.std.proofs.Common.{◌≡◌, length}
use Rattle.pairs.specs.Records.{keys_of}
use Rattle.pairs.specs.Sifting.{SiftsTo}
use Rattle.pairs.proofs.sift.sift_all.Given as goal

abbrev pub invariant-loop-turn : goal.invariant-loop-turn
invariant-loop-turn l =
    (length l.list ≡ l.records.n) × (length l.place ≡ length l.initial.place)
    × SiftsTo (keys_of l.records) l.records.n l.records.n (λ u. u) l.list l.s
