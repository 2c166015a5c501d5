-- The laws of checks in their order: what they decide is what their conditions in words say, and how parts of an order go together.
use Rattle.std.proofs.Common.{◌≡◌, ℕ, ◌<◌, ◌≤◌, Bool, true, false, cond, ◌&&◌, leb, ◌↔◌, List, [], ◌∷◌, ◌++◌, map, sym, refl, ap, ◌∙◌, inl, inr, le_trans, arith, leb-true, Option, Some, None}
use mathlib.Core.List.{foldl, Memᴰ}
use Rattle.numbers.specs.Folds.{first}
use Rattle.numbers.specs.Order.{pick, or_later, or_found, decision, sought, Decision, Met, Unmet}
use Rattle.numbers.specs.Checks.{Check, Checks, only, ◌before◌, number_of, HoldsAt, Refuses, Passes, finding_of, decision_of, decision_for}
use Rattle.numbers.specs.declared.wanted.Wanted.{Wanted}
use Rattle.numbers.specs.declared.wanted.Wanted.TheVariants.{All}
use Rattle.numbers.proofs.Truth.{Tells, and_left, and_right}
use Rattle.numbers.proofs.Searches.{first_clear}
use Rattle.numbers.proofs.Order.{Finds, first_finds, met_exactly, clear_exactly, all_clear, none_of, nothing_sought}

-- ---- in words

-- each test is true exactly where its words say that something is wrong
abbrev pub Agree : Checks → Type 0
Agree cs = (c : cs.Name) (i : ℕ) → Tells ((cs.check c).test i) ((cs.check c).Condition i)

module _ (cs : Checks) (agree : Agree cs) where
  pub finds : (c : cs.Name) → Finds (HoldsAt cs c) (finding_of cs c)
  finds c = first_finds (cs.check c).test (agree c) (cs.size c)

  -- check k decides at i exactly where its condition is the first that holds, there first
  pub refuses_exactly : {k i : ℕ} → (decision_of cs ≡ Met k i) ↔ Refuses cs k i
  unfolding decision_of
  refuses_exactly = met_exactly (number_of cs) (finding_of cs) finds cs.order

  -- and none decides exactly where no condition holds
  pub passes_exactly : (decision_of cs ≡ Unmet) ↔ Passes cs
  unfolding decision_of
  passes_exactly = clear_exactly (number_of cs) (finding_of cs) finds cs.order

pub agree_before : (p q : Checks) → Agree p → Agree q → Agree (p before q)
agree_before p q a b (inl c) = a c
agree_before p q a b (inr c) = b c

pub agree_only : (c : Check) → ((i : ℕ) → Tells (c.test i) (c.Condition i)) → Agree (only c)
agree_only c t n = t

-- ---- checks that pass

module _ (cs : Checks) where
  clear : decision_of cs ≡ Unmet → (c : cs.Name) → Memᴰ c cs.order → finding_of cs c ≡ None
  unfolding decision_of
  clear p c m = none_of (number_of cs) (finding_of cs) cs.order p c m

  pub unmet : ((c : cs.Name) → Memᴰ c cs.order → finding_of cs c ≡ None) → decision_of cs ≡ Unmet
  unfolding decision_of
  unmet h = all_clear (number_of cs) (finding_of cs) cs.order h

  pub unmet_for : (w : Wanted) → ((c : cs.Name) → Memᴰ c cs.order → finding_of cs c ≡ None) → decision_for cs w ≡ Unmet
  unfolding decision_for
  unmet_for w h = all_clear (number_of cs) (λ c. sought w (number_of cs c) (finding_of cs c)) cs.order (λ c m. rw (h c m) (nothing_sought w (number_of cs c)))

  -- no record fails a test
  pub passed-at : decision_of cs ≡ Unmet → {c : cs.Name} → Memᴰ c cs.order → {i : ℕ} → i < cs.size c → (cs.check c).test i ≡ false
  passed-at p {c} m {i} h = first_clear (cs.check c).test (cs.size c) i (clear p c m) h

-- ---- one part of an order after the other

pick_then : (o : Option ℕ) (k : ℕ) (d e : Decision) → pick o k (or_later d e) ≡ or_later (pick o k d) e
pick_then (Some i) k d e = refl
pick_then None k d e = refl

pub both_unmet : (d e : Decision) → or_later d e ≡ Unmet → (d ≡ Unmet) × (e ≡ Unmet)
both_unmet Unmet e p = (refl, p)
both_unmet (Met k i) e p = absurd (let z : ◌≡◌ {A = ℕ} 0 1 = cc in omega arith)

module _ {R : Type 0} (number : R → ℕ) (finding : R → Option ℕ) where
  decision-append : (xs ys : List R) → decision number finding (xs ++ ys) ≡ or_later (decision number finding xs) (decision number finding ys)
  decision-append [] ys = refl
  decision-append (x ∷ xs) ys =
      ap (pick (finding x) (number x)) (decision-append xs ys) ∙ pick_then (finding x) (number x) (decision number finding xs) (decision number finding ys)

  decision_steps : (d : Decision) (x : R) (xs : List R) → or_later d (decision number finding (x ∷ xs)) ≡ or_later (or_found d (number x) (finding x)) (decision number finding xs)
  decision_steps (Met k i) x xs = refl
  decision_steps Unmet x xs = by_found (finding x)
    where
      by_found : (o : Option ℕ) → pick o (number x) (decision number finding xs) ≡ or_later (pick o (number x) Unmet) (decision number finding xs)
      by_found (Some i) = refl
      by_found None = refl

  decision-map : {S : Type 0} (f : S → R) (xs : List S) → decision number finding (map f xs) ≡ decision (λ x. number (f x)) (λ x. finding (f x)) xs
  decision-map f [] = refl
  decision-map f (x ∷ xs) = ap (pick (finding (f x)) (number (f x))) (decision-map f xs)

-- one check after the other
and_none : (d : Decision) → d ≡ or_later d Unmet
and_none (Met k i) = refl
and_none Unmet = refl

by_steps : {R : Type 0} (number : R → ℕ) (finding : R → Option ℕ) (d : Decision) (xs : List R)
    → foldl (λ d x. or_found d (number x) (finding x)) d xs ≡ or_later d (decision number finding xs)
by_steps number finding d [] = and_none d
by_steps number finding d (x ∷ xs) = by_steps number finding (or_found d (number x) (finding x)) xs ∙ sym (decision_steps number finding d x xs)

pub decision_by_steps : (cs : Checks) (w : Wanted)
    → foldl (λ d c. or_found d (number_of cs c) (sought w (number_of cs c) (finding_of cs c))) Unmet cs.order ≡ decision_for cs w
unfolding decision_for
decision_by_steps cs w = by_steps (number_of cs) (λ c. sought w (number_of cs c) (finding_of cs c)) Unmet cs.order

pub decision_all : (cs : Checks) → decision_for cs All ≡ decision_of cs
unfolding decision_for decision_of
decision_all cs = refl

-- one check by itself
pub decision-only : (c : Check) → decision_of (only c) ≡ pick (cond (c.test 0) (Some 0) None) c.number Unmet
unfolding decision_of first
decision-only c = refl

pub decision-before : (p q : Checks) → decision_of (p before q) ≡ or_later (decision_of p) (decision_of q)
unfolding decision_of
decision-before p q =
    let number = number_of (p before q) in
    let finding = finding_of (p before q) in
    decision-append number finding (map inl p.order) (map inr q.order)
    ∙ ap (λ d. or_later d (decision number finding (map inr q.order))) (decision-map number finding inl p.order)
    ∙ ap (or_later (decision (number_of p) (finding_of p) p.order)) (decision-map number finding inr q.order)

-- one check before others: it decides alone, or they do
module _ (c : Check) (cs : Checks) where
  pub one_decides : c.test 0 ≡ true → Met c.number 0 ≡ decision_of (only c before cs)
  one_decides p = sym (decision-before (only c) cs ∙ rw (decision-only c, p))

  pub one_passes : c.test 0 ≡ false → {d : Decision} → d ≡ decision_of cs → d ≡ decision_of (only c before cs)
  one_passes p e = e ∙ sym (decision-before (only c) cs ∙ rw (decision-only c, p))

  pub one_passed : decision_of (only c before cs) ≡ Unmet → (c.test 0 ≡ false) × (decision_of cs ≡ Unmet)
  one_passed p =
      let both = both_unmet (decision_of (only c)) (decision_of cs) (sym (decision-before (only c) cs) ∙ p) in
      (passed-at (only c) both.0 (Memᴰ.head refl) (omega arith), both.1)

pub decision_for-before : (p q : Checks) (w : Wanted) → decision_for (p before q) w ≡ or_later (decision_for p w) (decision_for q w)
unfolding decision_for
decision_for-before p q w =
    let number = number_of (p before q) in
    let finding : (p before q).Name → Option ℕ = λ c. sought w (number_of (p before q) c) (finding_of (p before q) c) in
    decision-append number finding (map inl p.order) (map inr q.order)
    ∙ ap (λ d. or_later d (decision number finding (map inr q.order))) (decision-map number finding inl p.order)
    ∙ ap (or_later (decision_for p w)) (decision-map number finding inr q.order)

-- ---- the number and the index of a refusal

-- every one of some numbers passes a test
abbrev pub every : (ℕ → Bool) → List ℕ → Bool
every t [] = true
every t (k ∷ ks) = t k && every t ks

stands : {R : Type 0} (f : R → ℕ) (t : ℕ → Bool) (xs : List R) (x : R) (ys : List R) → every t (map f (xs ++ (x ∷ ys))) ≡ true → t (f x) ≡ true
stands f t [] x ys p = and_left (t (f x)) _ p
stands f t (z ∷ xs) x ys p = stands f t xs x ys (and_right (t (f z)) _ p)

-- so does the number of a refusal
pub number_passes : (cs : Checks) (t : ℕ → Bool) → every t (map (number_of cs) cs.order) ≡ true → {k i : ℕ} → Refuses cs k i → t k ≡ true
number_passes cs t p r = rw (← r.numbered) (stands (number_of cs) t r.earlier r.condition r.later (rw r.ordered at p))

pub number-within : (cs : Checks) (n : ℕ) → every (λ k. leb k n) (map (number_of cs) cs.order) ≡ true → {k i : ℕ} → Refuses cs k i → k ≤ n
number-within cs n p {k} r = leb-true k n (number_passes cs (λ k. leb k n) p r)

-- no check looks at more than n records
abbrev pub Sized : Checks → ℕ → Type 0
Sized cs n = (c : cs.Name) → cs.size c ≤ n

pub sized_before : (p q : Checks) {n : ℕ} → Sized p n → Sized q n → Sized (p before q) n
sized_before p q a b (inl c) = a c
sized_before p q a b (inr c) = b c

pub index_within : (cs : Checks) (n : ℕ) → Sized cs n → {k i : ℕ} → Refuses cs k i → i < n
index_within cs n h r = le_trans r.here.0 (h r.condition)
