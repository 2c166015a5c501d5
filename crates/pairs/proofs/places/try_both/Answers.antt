-- Where the first place has another key the second decides.
use Rattle.std.proofs.Common.{◌≡◌, ℕ, List, get_or, sym, refl, inl, inr, le_trans, arith}
use Rattle.pairs.specs.Sifting.{Another, Puts, Second}
use Rattle.pairs.proofs.Spots.{place-below}
use Rattle.pairs.proofs.places.try_both.Goals as goal

-- the try at the first place left the places as they were
by-second : {key : ℕ → ℕ} {a b i left left' : ℕ} {now places list places' list' : List ℕ} → now ≡ places → Another key now a (key i)
    → ((get_or now b 0 ≡ 0 → ⊥) → Another key now b (key i)) → Puts now b i list left places' list' left'
    → Second key a b places list left i places' list' left'
by-second same f s w = rw (sym same) (record { first = f; second = s; puts = w })

pub try_at-requires : goal.try_at-requires
try_at-requires c =
    let p = c.requires in
    (p.1, rw c.place_of-first.ensures (place-below _ _ _ p.2 refl), omega (arith, p.0, c.args.records.now.keyed.few))

pub returns-in-Stays : goal.returns-in-Stays
returns-in-Stays c = inl (record { comes = rw (c.in-Stays.is, c.place_of-first.ensures, c.stirred-y.ensures, c.key_at-x.ensures) at c.try_at.ensures; entry = refl; count = refl })

pub returns-in-Repeats : goal.returns-in-Repeats
returns-in-Repeats c =
    let q = rw (c.in-Repeats.is, c.key_at-x.ensures) at c.try_at.ensures in
    (q.0, refl, rw q.0 at q.1)

pub repeats_at-requires : goal.repeats_at-requires
repeats_at-requires c =
    let p = c.requires in
    let q = rw c.in-Differs.is at c.try_at.ensures in
    (λ a. rw q.0 (p.1 a), rw c.place_of-first.ensures (place-below _ _ _ p.2 c.try_at.auto.place), rw c.place_of-second.ensures (place-below _ _ _ p.2 c.try_at.auto.place), q.1)

pub returns-then-repeats_at : goal.returns-then-repeats_at
returns-then-repeats_at c =
    let q = rw c.in-Differs.is at c.try_at.ensures in
    (q.0, refl, rw (q.0, c.key_at-x.ensures) at (c.repeats_at.ensures.same c.if-repeats_at.true))

pub stay_or_list-requires : goal.stay_or_list-requires
stay_or_list-requires c =
    let p = c.requires in
    let few = c.args.records.now.keyed.few in
    let q = rw c.in-Differs.is at c.try_at.ensures in
    (rw c.place_of-second.ensures (place-below _ _ _ p.2 c.try_at.auto.place), p.3, p.4, omega (arith, p.0, few), λ a. rw q.0 (le_trans (p.1 a) few))

pub returns : goal.returns
returns c =
    let q = rw (c.in-Differs.is, c.place_of-first.ensures, c.stirred-y.ensures, c.key_at-x.ensures) at c.try_at.ensures in
    let v = rw (c.place_of-second.ensures, c.stirred-y.ensures, c.key_at-x.ensures) at c.repeats_at.ensures in
    let r = rw (c.place_of-second.ensures, c.stirred-y.ensures, c.key_at-x.ensures) at c.stay_or_list.ensures in
    inr (by-second q.0 q.1 (v.differ c.if-repeats_at.false) r)
