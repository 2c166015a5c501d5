-- What one check finds by itself, whatever the others say.
use Rattle.std.proofs.Common.{◌≡◌, ℕ, Bool, true, false, cond, not, ◌&&◌, ◌||◌, eqb, ◌↔◌, List, [], ◌∷◌, ◌++◌, map, sym, refl, ap, ◌∙◌, arith, eq-eqb, eqb-true, Option, Some, None}
use mathlib.Core.List.Memᴰ
use mathlib.Core.List.{Memᴰ}
use Rattle.numbers.specs.Folds.{or_else}
use Rattle.numbers.specs.Order.{FindsAt, pick, decision, sought, found_in, found, Met, Unmet}
use Rattle.numbers.specs.Checks.{Checks, number_of, FindsFirst, FindsNothing, finding_of, decision_of, decision_for, finding_by}
use Rattle.numbers.specs.declared.wanted.Wanted.TheVariants.{One}
use Rattle.numbers.proofs.Truth.{not_both, and_left, and_right}
use Rattle.numbers.proofs.Order.{Finds, none-holds, holds-there, found-there}
use Rattle.numbers.proofs.Checks.{Agree, finds, refuses_exactly, passes_exactly}

-- ---- numbers that all differ

abbrev pub among : ℕ → List ℕ → Bool
among k [] = false
among k (n ∷ ns) = eqb k n || among k ns

abbrev pub distinct : List ℕ → Bool
distinct [] = true
distinct (n ∷ ns) = not (among n ns) && distinct ns

or_true : (a b : Bool) → b ≡ true → (a || b) ≡ true
or_true true b e = refl
or_true false b e = e

not_among : (b : Bool) → not b ≡ true → b ≡ true → {A : Type 0} → A
not_among true p q = not_both q (sym p)
not_among false p q = not_both q refl

module _ {R : Type 0} (number : R → ℕ) where
  among_all : (cs : List R) (c : R) → Memᴰ c cs → among (number c) (map number cs) ≡ true
  among_all [] c m = absurd (Memᴰ.not-nil m)
  among_all (b ∷ cs) c (Memᴰ.head q) = rw (eq-eqb (number c) (number b) (ap number q))
  among_all (b ∷ cs) c (Memᴰ.tail m) = or_true (eqb (number c) (number b)) _ (among_all cs c m)

  -- one number is borne by one
  same : (cs : List R) → distinct (map number cs) ≡ true → (b c : R) → Memᴰ b cs → Memᴰ c cs → number b ≡ number c → b ≡ c
  same [] p b c m n e = absurd (Memᴰ.not-nil m)
  same (a ∷ cs) p b c (Memᴰ.head q) (Memᴰ.head r) e = q ∙ sym r
  same (a ∷ cs) p b c (Memᴰ.head q) (Memᴰ.tail n) e =
      not_among (among (number a) (map number cs)) (and_left (not (among (number a) (map number cs))) _ p) (rw (← q, e) (among_all cs c n))
  same (a ∷ cs) p b c (Memᴰ.tail m) (Memᴰ.head r) e =
      not_among (among (number a) (map number cs)) (and_left (not (among (number a) (map number cs))) _ p) (rw (← r, ← e) (among_all cs b m))
  same (a ∷ cs) p b c (Memᴰ.tail m) (Memᴰ.tail n) e =
      same cs (and_right (not (among (number a) (map number cs))) _ p) b c m n e

-- ---- in words

module _ {R : Type 0} (number : R → ℕ) (finding : R → Option ℕ) {Holds : R → ℕ → Type 0} (finds-all : (c : R) → Finds (Holds c) (finding c)) (k : ℕ) where
  listed-later : (c : R) (cs : List R) {i : ℕ} → FindsAt number Holds cs k i → FindsAt number Holds (c ∷ cs) k i
  listed-later c cs d =
      record { condition = d.condition; listed = Memᴰ.tail d.listed; numbered = d.numbered; here = d.here; first = d.first }

  by_number : (c : R) (cs : List R) (b : Bool) → eqb k (number c) ≡ b → (o : Option ℕ) → finding c ≡ o → {i : ℕ} → or_else (cond b o None) (found number finding k cs) ≡ Some i
      → (found number finding k cs ≡ Some i → FindsAt number Holds cs k i) → FindsAt number Holds (c ∷ cs) k i
  by_number c cs false q o e p rest = listed-later c cs (rest p)
  by_number c cs true q None e p rest = listed-later c cs (rest p)
  by_number c cs true q (Some j) e {i} p rest =
      let h = holds-there (finds-all c) (e ∙ p) in
      record { condition = c; listed = Memᴰ.head refl; numbered = sym (eqb-true k (number c) q); here = h.0; first = h.1 }

  pub found_at : (cs : List R) {i : ℕ} → found number finding k cs ≡ Some i → FindsAt number Holds cs k i
  found_at [] p = absurd (let z : ◌≡◌ {A = ℕ} 0 1 = cc in omega arith)
  found_at (c ∷ cs) p = by_number c cs (eqb k (number c)) refl (finding c) refl p (found_at cs)

  neither : (o p : Option ℕ) → or_else o p ≡ None → (o ≡ None) × (p ≡ None)
  neither (Some i) p e = absurd (let z : ◌≡◌ {A = ℕ} 0 1 = cc in omega arith)
  neither None p e = (refl, e)

  pub found_none : (cs : List R) → found number finding k cs ≡ None → (c : R) → Memᴰ c cs → number c ≡ k → finding c ≡ None
  found_none [] p c m e = absurd (Memᴰ.not-nil m)
  found_none (b ∷ cs) p c (Memᴰ.head q) e =
      let w = (neither (cond (eqb k (number b)) (finding b) None) (found number finding k cs) p).0 in
      ap finding q ∙ (rw (eq-eqb k (number b) (sym e ∙ ap number q)) at w)
  found_none (b ∷ cs) p c (Memᴰ.tail m) e =
      found_none cs (neither (cond (eqb k (number b)) (finding b) None) (found number finding k cs) p).1 c m e

  -- the one with the number that is looked for decides what is found
  pub found_one : (cs : List R) → distinct (map number cs) ≡ true → (c : R) → Memᴰ c cs → number c ≡ k → found number finding k cs ≡ finding c
  found_one cs p c m e = go (found number finding k cs) refl
    where
      go : (o : Option ℕ) → found number finding k cs ≡ o → o ≡ finding c
      go None q = sym (found_none cs q c m e)
      go (Some i) q =
          let d = found_at cs q in
          let b = same number cs p d.condition c d.listed m (d.numbered ∙ sym e) in
          sym (found-there (finds-all c) i (rw b at d.here) (rw b at d.first))

module _ (cs : Checks) (agree : Agree cs) (apart : distinct (map (number_of cs) cs.order) ≡ true) (k : ℕ) where
  -- check k finds record i exactly where its condition holds there and at no record before it
  pub finds_exactly : {i : ℕ} → (finding_by cs k ≡ Some i) ↔ FindsFirst cs k i
  unfolding finding_by
  finds_exactly {i} = (
    found_at (number_of cs) (finding_of cs) (finds cs agree) k cs.order,
    λ d. found_one (number_of cs) (finding_of cs) (finds cs agree) k cs.order apart d.condition d.listed d.numbered
        ∙ found-there (finds cs agree d.condition) i d.here d.first,
  )

  -- and finds nothing exactly where it holds at none
  pub finds_nothing : (finding_by cs k ≡ None) ↔ FindsNothing cs k
  unfolding finding_by
  finds_nothing = (
    λ p. record { none = λ c m e. none-holds (finds cs agree c) (found_none (number_of cs) (finding_of cs) (finds cs agree) k cs.order p c m e) },
    λ h. go h (found (number_of cs) (finding_of cs) k cs.order) refl,
  )
    where
      go : FindsNothing cs k → (o : Option ℕ) → found (number_of cs) (finding_of cs) k cs.order ≡ o → o ≡ None
      go h None q = refl
      go h (Some i) q =
          let d = found_at (number_of cs) (finding_of cs) (finds cs agree) k cs.order q in
          absurd (h.none d.condition d.listed d.numbered i d.here)

-- ---- and what the checks decide together

in_the_middle : {R : Type 0} (xs : List R) (c : R) (ys : List R) → Memᴰ c (xs ++ (c ∷ ys))
in_the_middle [] c ys = Memᴰ.head refl
in_the_middle (x ∷ xs) c ys = Memᴰ.tail (in_the_middle xs c ys)

member_as : {R : Type 0} {c : R} {xs ys : List R} → xs ≡ ys → Memᴰ c ys → Memᴰ c xs
member_as e m = rw e m

module _ (cs : Checks) (agree : Agree cs) (apart : distinct (map (number_of cs) cs.order) ≡ true) where
  -- the check that refuses finds the record that it refuses at
  pub refusal_found : {k i : ℕ} → decision_of cs ≡ Met k i → finding_by cs k ≡ Some i
  refusal_found {k} p =
      let d = (refuses_exactly cs agree).0 p in
      (finds_exactly cs agree apart k).1
      (record {
        condition = d.condition;
        listed = member_as d.ordered (in_the_middle d.earlier d.condition d.later);
        numbered = d.numbered;
        here = d.here;
        first = d.first;
      })

  -- and where none refuses none finds anything
  pub nothing_found : decision_of cs ≡ Unmet → (k : ℕ) → finding_by cs k ≡ None
  nothing_found p k = (finds_nothing cs agree apart k).1 (record { none = λ c m e. ((passes_exactly cs agree).0 p).none c m })

-- ---- by a decision

module _ {R : Type 0} (number : R → ℕ) (finding : R → Option ℕ) (k : ℕ) where
  one_more : (c : R) (o : Option ℕ) (p : Option ℕ) (b : Bool) → eqb k (number c) ≡ b → pick (cond b o None) (number c) (pick p k Unmet) ≡ pick (or_else (cond b o None) p) k Unmet
  one_more c (Some i) p true e = rw (eqb-true k (number c) e)
  one_more c None p true e = refl
  one_more c o p false e = refl

  decision-found : (cs : List R) → decision number (λ c. sought (One k) (number c) (finding c)) cs ≡ pick (found number finding k cs) k Unmet
  decision-found [] = refl
  decision-found (c ∷ cs) =
      ap (pick (cond (eqb k (number c)) (finding c) None) (number c)) (decision-found cs)
      ∙ one_more c (finding c) (found number finding k cs) (eqb k (number c)) refl

found_picked : (o : Option ℕ) (k : ℕ) → found_in (pick o k Unmet) ≡ o
found_picked (Some i) k = refl
found_picked None k = refl

-- where the one check is looked at, its finding is decided
pub found_decided : (cs : Checks) (k : ℕ) → found_in (decision_for cs (One k)) ≡ finding_by cs k
unfolding decision_for finding_by
found_decided cs k =
    ap found_in (decision-found (number_of cs) (finding_of cs) k cs.order) ∙ found_picked (found (number_of cs) (finding_of cs) k cs.order) k
