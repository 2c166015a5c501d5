-- The laws of trees: the walk of an index ends at the index with its key, or where it is to be entered.
use Rattle.std.proofs.Common.{◌≡◌, ℕ, zero, suc, ◌+◌, ◌*◌, ◌/◌, ◌<◌, ◌≤◌, Bool, true, false, eqb, ◌≢◌, ◌⊎◌, List, length, get_or, set, replicate, sym, refl, ap, ◌∙◌, inl, inr, ⊎_elim, le_of_suc-le-suc, not-suc-le-zero, eq-or-lt_of_le, add-one, arith, get_or-set_other, get_or-set_same, ne_eqb, eqb-true}
use native.Mathlib.Decide.{dec_lt}
use lib.ListN.{get_or-replicate, length-replicate, get_or-eq_default}
use borrow.Author.Tests.{eqb-false}
use Rattle.numbers.specs.Folds.{last}
use Rattle.pairs.specs.Trees.{Keys, child_of, node_of, Ends, Walk, WalkOf, Grown, same_key, Known, Tree}
use Rattle.pairs.specs.Walks.{Zeros}
use Rattle.pairs.specs.Trees.Ends.{empty, same}
use Rattle.pairs.specs.Trees.Walk.{here, on}
use Rattle.numbers.proofs.Last.{last_miss, last-here, last_clear}

-- ---- lists

-- an entry of a list after a store
pub after-set : {A : Type 0} (P : A → Type 0) (l : List A) (i j : ℕ) (v d : A) → i < length l → (j ≡ i → P v) → (j ≢ i → P (get_or l j d)) → P (get_or (set l i v) j d)
after-set P l i j v d h it other = go (eqb j i) refl
  where
    go : (b : Bool) → eqb j i ≡ b → P (get_or (set l i v) j d)
    go true e = rw (eqb-true j i e, get_or-set_same l i v d h) (it (eqb-true j i e))
    go false e = rw (get_or-set_other l i j v d (eqb-false j i e)) (other (eqb-false j i e))

pub zeros : (n : ℕ) → Zeros (replicate n 0)
zeros n i = go (dec_lt i n)
  where
    go : Dec (i < n) → ◌≡◌ {A = ℕ} (get_or (replicate n 0) i 0) 0
    go (yes h) = get_or-replicate n i 0 0 h
    go (no h) = get_or-eq_default (replicate n 0) 0 {n = i} (simp length-replicate (omega arith))

-- ---- one walk

module _ {t : Keys} {places : List ℕ} where
  -- where it ends
  walk_end : {x e r a : ℕ} → Walk t places x e r a → Ends t places x e
  walk_end (here s) = s
  walk_end (on p q w) = walk_end w

  -- what a walk goes past does not end it
  passed : {x a k : ℕ} {A : Type 0} → get_or places a 0 ≡ suc k → t.key k ≢ x → Ends t places x a → A
  passed p q (empty z) = absurd (omega (arith, sym p ∙ z))
  passed {x} {a} {k} p q (same {k = m} z s) = absurd (q (let e : k ≡ m = omega (arith, sym p ∙ z) in rw e s))

  -- two walks from one place end at one place
  determined : {x e f r a : ℕ} → Walk t places x e r a → Walk t places x f r a → e ≡ f
  determined (here s) (here z) = refl
  determined (here s) (on p q w) = passed p q s
  determined (on p q w) (here z) = passed p q z
  determined (on {k = k} p q w) (on {k = m} p' q' w') =
      let e : m ≡ k = omega (arith, sym p ∙ p') in
      determined w (rw e at w')

-- another list of places that holds what these hold
walk_kept : {t : Keys} {P Q : List ℕ} → ((a k : ℕ) → get_or P a 0 ≡ suc k → get_or Q a 0 ≡ suc k) → {x e r a : ℕ} → Ends t Q x e → Walk t P x e r a → Walk t Q x e r a
walk_kept keep s (here z) = here s
walk_kept keep s (on {a = a} {k = k} p q w) = on (keep a k p) q (walk_kept keep s w)

-- ---- a walk step by step

-- a walk from the number s and the place b on goes on one from r and a
pub record Leads (t : Keys) (places : List ℕ) (x r a s b : ℕ) : Type 0 where
  pub onward : {e : ℕ} → Walk t places x e s b → Walk t places x e r a

module _ {t : Keys} {places : List ℕ} {x r a : ℕ} where
  pub leads_start : Leads t places x r a r a
  leads_start = record { onward = λ w. w }

  pub leads_on : {s b k : ℕ} → get_or places b 0 ≡ suc k → t.key k ≢ x → Leads t places x r a s b → Leads t places x r a (s / 2) (child_of t k s)
  leads_on p q l = record { onward = λ w. l.onward (on p q w) }

-- ---- one index more

pub node_held : (k n : ℕ) {j : ℕ} → k ≡ suc j → j ≡ node_of k n
node_held k n e = rw e

-- the index j at the end of the walk of n
record Node (t : Keys) (n : ℕ) (places : List ℕ) (e j : ℕ) : Type 0 where
  pub old : (get_or places e 0 ≡ 0) ⊎ (get_or places e 0 ≡ suc j)
  pub alike : t.key j ≡ t.key n
  pub early : j ≤ n
  pub below : e < t.roots + 2 * j

module _ {t : Keys} {n : ℕ} {places lasts : List ℕ} (tree : Tree t n places lasts) {e : ℕ} (w : WalkOf t places n e) where
  node_at : e < t.roots + 2 * n → (c : ℕ) → get_or places e 0 ≡ c → Node t n places e (node_of c n)
  node_at inside zero p = record { old = inl p; alike = refl; early = omega arith; below = inside }
  node_at inside (suc k) p =
      record {
        old = inr p;
        alike = held (walk_end w);
        early = omega (arith, tree.grown.filled e);
        below = tree.grown.rising e k p;
      }
    where
      held : Ends t places (t.key n) e → t.key k ≡ t.key n
      held (empty z) = absurd (omega (arith, sym z ∙ p))
      held (same {k = m} z s) = let q : k ≡ m = omega (arith, sym z ∙ p) in rw q s

  -- an earlier index with the same key is led to the same place
  led : (j : ℕ) (h : j < n) → t.key j ≡ t.key n → get_or places e 0 ≡ suc (tree.known j h).node
  led j h q =
      let m = tree.known j h in
      let p : m.place ≡ e = determined (rw q at m.walked) w in
      rw p at m.holds

  -- what stands beside the index at the end of the walk
  latest-at : e < t.roots + 2 * n → (c : ℕ) → get_or places e 0 ≡ c → get_or lasts (node_of c n) 0 ≡ last (same_key t n) n
  latest-at inside zero p =
      tree.unused n (omega arith) ∙ sym (last_clear (same_key t n) n (λ j h. ne_eqb (t.key n) (t.key j) (λ q. omega (arith, sym p ∙ led j h (sym q)))))
  latest-at inside (suc k) p =
      let h : k < n = omega (arith, tree.grown.filled e) in
      let q : t.key k ≡ t.key n = (node_at inside (suc k) p).alike in
      let m = tree.known k h in
      let s : m.node ≡ k = omega (arith, sym p ∙ led k h q) in
      (rw s at m.latest) ∙ ap (λ (x : ℕ). last (λ i. eqb x (t.key i)) n) q

  module _ {j : ℕ} (at : Node t n places e j) (wide : e < length places) (long : j < length lasts) where
    keep : (a k : ℕ) → get_or places a 0 ≡ suc k → get_or (set places e (suc j)) a 0 ≡ suc k
    keep a k p =
        after-set (λ (z : ℕ). z ≡ suc k) places e a (suc j) 0 wide
        (λ q. ⊎_elim (λ (z : get_or places e 0 ≡ 0). absurd (omega (arith, sym z ∙ rw q at p))) (λ (z : get_or places e 0 ≡ suc j). sym z ∙ rw q at p) at.old) (λ q. p)

    grown-more : Grown t (suc n) (set places e (suc j))
    grown-more =
        record {
          filled = λ a. after-set (λ (z : ℕ). z ≤ suc n) places e a (suc j) 0 wide (λ q. omega (arith, at.early)) (λ q. omega (arith, tree.grown.filled a));
          rising = λ a k. after-set (λ (z : ℕ). z ≡ suc k → a < t.roots + 2 * k) places e a (suc j) 0 wide (λ q p. omega (arith, at.below)) (λ q. tree.grown.rising a k);
        }

    known_more : (i : ℕ) → i < suc n → Known t (suc n) (set places e (suc j)) (set lasts j (suc n)) i
    known_more i h = go (eqb (t.key i) (t.key n)) refl
      where
        go : (b : Bool) → eqb (t.key i) (t.key n) ≡ b → Known t (suc n) (set places e (suc j)) (set lasts j (suc n)) i
        go true b =
            let q : t.key i ≡ t.key n = eqb-true (t.key i) (t.key n) b in
            let stored : get_or (set places e (suc j)) e 0 ≡ suc j = get_or-set_same places e (suc j) 0 wide in
            record {
              place = e;
              node = j;
              walked = rw q (walk_kept keep (same stored at.alike) w);
              holds = stored;
              alike = at.alike ∙ sym q;
              latest = get_or-set_same lasts j (suc n) 0 long ∙ sym (last-here (same_key t i) n b);
            }
        go false b =
            let q : t.key i ≢ t.key n = eqb-false (t.key i) (t.key n) b in
            let l : i < n = ⊎_elim (λ (p : i ≡ n). absurd (q (ap t.key p))) (λ (l : i < n). l) (eq-or-lt_of_le (le_of_suc-le-suc h)) in
            let m = tree.known i l in
            let kept : get_or (set places e (suc j)) m.place 0 ≡ suc m.node = keep m.place m.node m.holds in
            record {
              place = m.place;
              node = m.node;
              walked = walk_kept keep (same kept m.alike) m.walked;
              holds = kept;
              alike = m.alike;
              latest = get_or-set_other lasts j m.node (suc n) 0 (λ p. q (sym m.alike ∙ ap t.key p ∙ at.alike)) ∙ m.latest ∙ sym (last_miss (same_key t i) n b);
            }

    tree_with : Tree t (suc n) (set places e (suc j)) (set lasts j (suc n))
    tree_with =
        record {
          grown = grown-more;
          known = known_more;
          unused = λ i h. get_or-set_other lasts j i (suc n) 0 (λ p. omega (arith, at.early)) ∙ tree.unused i (omega arith);
        }

-- ---- a tree from its start

module _ {t : Keys} where
  pub tree_start : {places lasts : List ℕ} → Zeros places → Zeros lasts → Tree t 0 places lasts
  tree_start p l =
      record {
        grown = record { filled = λ a. omega (arith, p a); rising = λ a k q. absurd (omega (arith, sym q ∙ p a)) };
        known = λ j h. absurd (not-suc-le-zero h);
        unused = λ j h. l j;
      }

  module _ {n e j : ℕ} {places lasts : List ℕ} (tree : Tree t n places lasts) (w : WalkOf t places n e) (inside : e < t.roots + 2 * n) (is : j ≡ node_of (get_or places e 0) n) where
    -- beside the index at the end of its walk stands what n looks for
    pub latest-here : get_or lasts j 0 ≡ last (same_key t n) n
    latest-here = rw is (latest-at tree w inside (get_or places e 0) refl)

    -- and n takes its place
    pub tree_more : e < length places → j < length lasts → Tree t (n + 1) (set places e (j + 1)) (set lasts j (n + 1))
    tree_more wide long = rw (add-one n, add-one j) (tree_with tree w (rw is (node_at tree w inside (get_or places e 0) refl)) wide long)
