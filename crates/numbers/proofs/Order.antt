-- The first condition in an order that holds anywhere decides.
use Rattle.std.proofs.Common.{◌≡◌, ℕ, zero, suc, ◌<◌, Bool, true, false, cond, ltb, ◌↔◌, List, [], ◌∷◌, ◌++◌, sym, refl, ap, ◌∙◌, ⊎_elim, le_of_suc-le-suc, not-suc-le-zero, eq-or-lt_of_le, arith, ltb-false, ltb-true, Option, Some, None}
use mathlib.Core.List.Memᴰ
use mathlib.Core.List.{Memᴰ}
use Rattle.numbers.specs.Folds.{first, or_else}
use Rattle.numbers.specs.Order.{Decides, Clear, pick, decision, takes, sought, Met, Unmet}
use Rattle.numbers.specs.declared.wanted.Wanted.{Wanted}
use Rattle.numbers.proofs.Truth.{Tells}

-- ---- what a search finds

-- the first index where P holds, or that there is none
pub data Finds (P : ℕ → Type 0) (o : Option ℕ) : Type 0 where
  here : (i : ℕ) → o ≡ Some i → P i → ((j : ℕ) → j < i → ¬ P j) → Finds P o
  nowhere : o ≡ None → ((j : ℕ) → ¬ P j) → Finds P o

-- a test of one thing, which has the index 0
pub finds_whole : (b : Bool) {A : Type 0} → Tells b A → Finds (λ i. (i ≡ 0) × A) (cond b (Some 0) None)
finds_whole true t = here 0 refl (refl, t.yes refl) (λ j h x. not-suc-le-zero h)
finds_whole false t = nowhere refl (λ j x. t.no refl x.1)

-- the search below n by a test
module _ {A : ℕ → Type 0} (t : ℕ → Bool) (tells : (i : ℕ) → Tells (t i) (A i)) where
  -- below n
  abbrev Below : ℕ → ℕ → Type 0
  Below n i = (i < n) × A i

  more : (n : ℕ) (o : Option ℕ) → Finds (Below n) o → (b : Bool) → t n ≡ b → Finds (Below (suc n)) (or_else o (cond b (Some n) None))
  more n o (here i e p f) b q =
      here i (rw e) (omega (arith, p.0), p.1) (λ j h x. f j h (omega (arith, p.0), x.1))
  more n o (nowhere e f) true q =
      here n (rw e) (omega arith, (tells n).yes q) (λ j h x. f j (h, x.1))
  more n o (nowhere e f) false q =
      nowhere (rw e)
      (λ j x. ⊎_elim (λ (r : j ≡ n). (tells n).no q (rw r at x.1)) (λ (h : j < n). f j (h, x.1)) (eq-or-lt_of_le (le_of_suc-le-suc x.0)))

  pub first_finds : (n : ℕ) → Finds (Below n) (first t n)
  unfolding first
  first_finds zero = nowhere refl (λ j x. not-suc-le-zero x.0)
  first_finds (suc n) = more n (first t n) (first_finds n) (t n) refl

never_both : {A : Type 0} {i : ℕ} {o : Option ℕ} → o ≡ Some i → o ≡ None → A
never_both p q = absurd (let z : ◌≡◌ {A = ℕ} 0 1 = (let w = sym p ∙ q in cc) in omega arith)

module _ {P : ℕ → Type 0} {o : Option ℕ} where
  pub none-holds : Finds P o → o ≡ None → (j : ℕ) → ¬ P j
  none-holds (here i e p f) q = never_both e q
  none-holds (nowhere e f) q = f

  pub none_found : Finds P o → ((j : ℕ) → ¬ P j) → o ≡ None
  none_found (here i e p f) h = absurd (h i p)
  none_found (nowhere e f) h = e

  pub holds-there : Finds P o → {i : ℕ} → o ≡ Some i → P i × ((j : ℕ) → j < i → ¬ P j)
  holds-there (here j e p f) {i} q = let r : j ≡ i = (let w = sym e ∙ q in cc) in (rw r at p, rw r at f)
  holds-there (nowhere e f) q = never_both q e

  pub found-there : Finds P o → (i : ℕ) → P i → ((j : ℕ) → j < i → ¬ P j) → o ≡ Some i
  found-there (here k e p f) i q g = e ∙ ap Some (same (ltb k i) refl (ltb i k) refl)
    where
      same : (a : Bool) → ltb k i ≡ a → (b : Bool) → ltb i k ≡ b → k ≡ i
      same true u b v = absurd (g k (ltb-true k i u) p)
      same false u true v = absurd (f i (ltb-true i k v) q)
      same false u false v = omega (arith, ltb-false k i u, ltb-false i k v)
  found-there (nowhere e f) i q g = absurd (f i q)

-- who finds nothing finds nothing that is looked at
pub nothing_sought : (w : Wanted) (n : ℕ) → sought w n None ≡ None
nothing_sought w n = go (takes w n)
  where
    go : (b : Bool) → cond {A = Option ℕ} b None None ≡ None
    go true = refl
    go false = refl

-- ---- the decision

module _ {R : Type 0} (number : R → ℕ) (finding : R → Option ℕ) where
  -- where no condition finds a record, none decides, and the other way round
  pub all_clear : (cs : List R) → ((c : R) → Memᴰ c cs → finding c ≡ None) → decision number finding cs ≡ Unmet
  all_clear [] h = refl
  all_clear (c ∷ cs) h = rw (h c (Memᴰ.head refl)) (all_clear cs (λ b m. h b (Memᴰ.tail m)))

  by_clear : (c : R) (cs : List R) (o : Option ℕ) → finding c ≡ o → pick o (number c) (decision number finding cs) ≡ Unmet → (finding c ≡ None) × (decision number finding cs ≡ Unmet)
  by_clear c cs (Some i) e p = absurd (let z : ◌≡◌ {A = ℕ} 0 1 = cc in omega arith)
  by_clear c cs None e p = (e, p)

  pub none_of : (cs : List R) → decision number finding cs ≡ Unmet → (c : R) → Memᴰ c cs → finding c ≡ None
  none_of [] p c m = absurd (Memᴰ.not-nil m)
  none_of (b ∷ cs) p c (Memᴰ.head q) = ap finding q ∙ (by_clear b cs (finding b) refl p).0
  none_of (b ∷ cs) p c (Memᴰ.tail m) = none_of cs (by_clear b cs (finding b) refl p).1 c m

  module _ {Holds : R → ℕ → Type 0} (finds : (c : R) → Finds (Holds c) (finding c)) where
    by_found : (c : R) (cs : List R) (o : Option ℕ) → finding c ≡ o → {k i : ℕ} → pick o (number c) (decision number finding cs) ≡ Met k i
        → (decision number finding cs ≡ Met k i → Decides number Holds cs k i) → Decides number Holds (c ∷ cs) k i
    by_found c cs (Some j) e {k} {i} p rest =
        let same : j ≡ i = cc in
        let h = holds-there (finds c) e in
        record {
          condition = c;
          numbered = cc;
          earlier = [];
          later = cs;
          ordered = refl;
          none-earlier = λ b m. absurd (Memᴰ.not-nil m);
          here = rw same at h.0;
          first = rw same at h.1;
        }
    by_found c cs None e p rest =
        let d = rest p in
        record {
          condition = d.condition;
          numbered = d.numbered;
          earlier = c ∷ d.earlier;
          later = d.later;
          ordered = ap (λ xs. c ∷ xs) d.ordered;
          none-earlier = λ b m. by_member b m d.none-earlier;
          here = d.here;
          first = d.first;
        }
      where
        by_member : (b : R) {xs : List R} → Memᴰ b (c ∷ xs) → ((b : R) → Memᴰ b xs → (j : ℕ) → ¬ (Holds b j)) → (j : ℕ) → ¬ (Holds b j)
        by_member b (Memᴰ.head q) h = rw q (none-holds (finds c) e)
        by_member b (Memᴰ.tail m) h = h b m

    decided : (cs : List R) {k i : ℕ} → decision number finding cs ≡ Met k i → Decides number Holds cs k i
    decided [] p = absurd (let z : ◌≡◌ {A = ℕ} 0 1 = cc in omega arith)
    decided (c ∷ cs) p = by_found c cs (finding c) refl p (decided cs)

    after_none : (es : List R) (c : R) (cs : List R) {i : ℕ} → ((b : R) → Memᴰ b es → finding b ≡ None) → finding c ≡ Some i
        → decision number finding (es ++ (c ∷ cs)) ≡ Met (number c) i
    after_none [] c cs none e = rw e
    after_none (b ∷ es) c cs none e = rw (none b (Memᴰ.head refl)) (after_none es c cs (λ x m. none x (Memᴰ.tail m)) e)

    -- condition k decides at i exactly where the decision says so
    pub met_exactly : (cs : List R) {k i : ℕ} → (decision number finding cs ≡ Met k i) ↔ Decides number Holds cs k i
    met_exactly cs {k} {i} = (
      decided cs,
      λ d. rw (d.ordered, ← d.numbered)
          (after_none d.earlier d.condition d.later (λ b m. none_found (finds b) (d.none-earlier b m)) (found-there (finds d.condition) i d.here d.first)),
    )

    -- and none holds exactly where the decision is clear
    pub clear_exactly : (cs : List R) → (decision number finding cs ≡ Unmet) ↔ Clear Holds cs
    clear_exactly cs = (
      λ p. record { none = λ b m. none-holds (finds b) (none_of cs p b m) },
      λ h. all_clear cs (λ b m. none_found (finds b) (h.none b m)),
    )
