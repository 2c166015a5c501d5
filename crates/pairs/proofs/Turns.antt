-- Turns: a list that is sifted anew, and one of all records.
use Rattle.std.proofs.Common.{◌≡◌, ℕ, ◌<◌, ◌≤◌, length, take, drop, ◌++◌, length-take-le, length-append, length-drop, Bool, true, false, cond, leb, List, min, Option, Some, None, MatchOption, IsSomeAnd, sym, refl, ◌∙◌, arith, leb-false, leb-true}
use Rattle.std.proofs.lemmas.List.{get_or-take}
use Rattle.std.proofs.Math.ListN.{get_or-append}
use Rattle.numbers.specs.Folds.{Filled}
use Rattle.pairs.specs.Keys.{least}
use Rattle.pairs.specs.Indices.{at, Hit, FirstOf, Rising}
use Rattle.pairs.specs.Sifting.{Sifts, SiftsTo}
use Rattle.pairs.specs.declared.sift.Sifted.{Sifted}
use Rattle.pairs.proofs.Least.{min-least, least_first, least-second}

least-least : (o a b : ℕ) → least (least o a) b ≡ least o (least a b)
least-least o a b = go (leb o a) (leb a b) refl refl
  where
    go : (x y : Bool) → leb o a ≡ x → leb a b ≡ y → least (cond x o a) b ≡ least o (cond y a b)
    go true true p q = let h = leb-true o a p in let k = leb-true a b q in sym (least_first o b (omega arith)) ∙ least_first o a h
    go true false p q = refl
    go false true p q = let h = leb-false o a p in let k = leb-true a b q in sym (least_first a b k) ∙ least-second o a (omega arith)
    go false false p q = let h = leb-false o a p in let k = leb-false a b q in sym (least-second a b (omega arith)) ∙ least-second o b (omega arith)

pub sifts-sifts : {key before : ℕ → ℕ} {n m k left a b : ℕ} {mid after : List ℕ}
    → Sifts key n m before mid a k → Sifts key n k (at mid) after b left → Sifts key n m before after (least b a) left
sifts-sifts {left = left} {a = a} {b = b} s r =
    record { fewer = omega (arith, s.fewer, r.fewer); listed = r.listed; answers = λ o w. rw (sym (least-least o b a)) (s.answers (least o b) (r.answers o w)) }

-- only the listed ones matter
hit_as : {f g : ℕ → ℕ} {m i : ℕ} → ((u : ℕ) → u < m → f u ≡ g u) → Hit f m i → Hit g m i
hit_as w a = record { place = a.place; below = a.below; is = sym (w a.place a.below) ∙ a.is }

first_of-as : {key f g : ℕ → ℕ} {n m o : ℕ} → ((u : ℕ) → u < m → f u ≡ g u) → FirstOf key f n m o → FirstOf key g n m o
first_of-as w a =
    record {
      within = a.within;
      repeats = λ h.
          let r = a.repeats h in
          record { listed = hit_as w r.listed; other = r.other; listed_too = hit_as w r.listed_too; lower = r.lower; same = r.same };
      lowest = λ j k p q l e. a.lowest j k (hit_as (λ u h. sym (w u h)) p) (hit_as (λ u h. sym (w u h)) q) l e;
    }

rising_as : {f g : ℕ → ℕ} {n m : ℕ} → ((u : ℕ) → u < m → f u ≡ g u) → Rising n m f → Rising n m g
rising_as w r =
    record {
      below = λ u h. rw (sym (w u h)) (r.below u h);
      rising = λ u v h k. rw (sym (w u (omega (arith, h, k))), sym (w v k)) (r.rising u v h k);
    }

-- of a list whose first part alone was sifted
sifts-part : {key f g : ℕ → ℕ} {n m found left : ℕ} {part list : List ℕ} → ((u : ℕ) → u < m → f u ≡ g u)
    → ((u : ℕ) → u < m → at part u ≡ at list u) → Sifts key n m f part found left → Sifts key n m g list found left
sifts-part w v s =
    let few = s.fewer in
    record {
      fewer = few;
      listed = rising_as (λ u h. v u (omega (arith, h, few))) s.listed;
      answers = λ o a. first_of-as w (s.answers o (first_of-as (λ u h. sym (v u (omega (arith, h, few)))) a));
    }

-- all records are listed: none is sifted yet
pub sifts-none : {key : ℕ → ℕ} {n : ℕ} {list : List ℕ} → Filled 0 (λ u. u) n list → Sifts key n n (λ u. u) list n n
sifts-none {key} {n} {list} w =
    record {
      fewer = omega arith;
      listed = rising_as (λ u h. sym (w.entry u h)) (record { below = λ u h. h; rising = λ u v h k. h });
      answers = λ o a. rw (sym (least_first o n a.within)) (first_of-as w.entry a);
    }

-- those that are left are the first part of the list
pub rising_part : {n k : ℕ} (list : List ℕ) → k ≤ length list → Rising n k (at list) → Rising n (length (take k list)) (at (take k list))
rising_part {k = k} list l r = rw (length-take-le k list l) (rising_as (λ u h. sym (get_or-take k list u 0 h)) r)

-- a part and the rest are as long as the list was
pub length-rest : {k : ℕ} (part list : List ℕ) → k ≤ length list → length part ≡ length (take k list) → length (part ++ drop k list) ≡ length list
length-rest {k} part list l e = simp (length-append, length-drop) (omega (arith, l, e, length-take-le k list l))

-- the turn that sifts what is left of one before answers the lower of what both found
pub sifts-turn : {P : Sifted → Sifted → Type 0} {key : ℕ → ℕ} {n k a : ℕ} {mid : List ℕ} (part : List ℕ) (o r : Option Sifted)
    → Sifts key n n (λ u. u) mid a k → k ≤ length mid → length part ≡ length (take k mid)
    → SiftsTo key n (length (take k mid)) (at (take k mid)) part o
    → ((x y : Sifted) → P x y → (y.found ≡ min x.found a) × (y.left ≡ x.left))
    → MatchOption o (r ≡ None) (λ x. IsSomeAnd r (P x))
    → SiftsTo key n n (λ u. u) (part ++ drop k mid) r
sifts-turn part None r s l e t f h = rw h tt
sifts-turn part (Some x) None s l e t f h = tt
sifts-turn {key = key} {n} {k} {a} {mid} part (Some x) (Some y) s l e t f h =
    let q = f x y h in
    let long : length part ≡ k = e ∙ length-take-le k mid l in
    let first : (u : ℕ) → u < k → at part u ≡ at (part ++ drop k mid) u = λ u h. sym (get_or-append part _ 0 u (omega (arith, h, long))) in
    rw (q.0, q.1, min-least x.found a) (sifts-sifts s (sifts-part (λ u h. get_or-take k mid u 0 h) first (rw (length-take-le k mid l) at t)))
