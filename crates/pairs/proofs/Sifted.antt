-- A list that is being sifted. Each of the first t listed records stays at a place of its key or is left; one that is left has found
-- other keys at both places. So where two of them have one key both are left.
use Rattle.std.proofs.Common.{◌≡◌, ℕ, zero, suc, ◌+◌, ◌<◌, ◌≤◌, Bool, true, false, cond, eqb, leb, ◌⊎◌, List, length, get_or, set, sym, refl, ap, ◌∙◌, inl, inr, ⊎_elim, le_trans, eq-or-lt_of_le, add-one, arith, get_or-set_other, get_or-set_same, ne_eqb}
use mathlib.Core.Bool.{false≢true}
use native.Mathlib.Decide.{dec_lt}
use lib.Seq.{set-get_or}
use Rattle.pairs.specs.Keys.{least}
use Rattle.pairs.specs.Indices.{at, Hit, Repeats, FirstOf, Rising}
use Rattle.pairs.specs.Sifting.{Holds, Another, kept, more, First, Second, Sifts, listed}
use Rattle.pairs.proofs.Least.{least-below-first, least-below-second}
use Rattle.pairs.proofs.Spots.{another_set}
use Rattle.pairs.proofs.Trees.{after-set}

-- record i is at the first place of its key, or at the second, and then another key is at the first
pub record Stays (key : ℕ → ℕ) (spot : Bool → ℕ → ℕ) (places : List ℕ) (i : ℕ) : Type 0 where
  pub second : Bool
  pub there : get_or places (spot second (key i)) 0 ≡ suc i
  pub passed : second ≡ true → Another key places (spot false (key i)) (key i)

pub record Sifting (key : ℕ → ℕ) (spot : Bool → ℕ → ℕ) (before : ℕ → ℕ) (places after : List ℕ) (t left : ℕ) : Type 0 where
  pub fewer : left ≤ t
  pub held : (a h : ℕ) → get_or places a 0 ≡ suc h → Hit before t h
  pub leaves : (u : ℕ) → u < left → Hit before t (at after u)
  pub rising : (u v : ℕ) → u < v → v < left → at after u < at after v
  pub passed : (u : ℕ) → u < left → (b : Bool) → Another key places (spot b (key (at after u))) (key (at after u))
  pub stays : (i : ℕ) → Hit before t i → Stays key spot places i ⊎ Hit (at after) left i

-- ---- lists that are not sifted yet

module _ {key : ℕ → ℕ} {spot : Bool → ℕ → ℕ} {before : ℕ → ℕ} {places list : List ℕ} where
  pub sifting_start : ((a : ℕ) → get_or places a 0 ≡ 0) → Sifting key spot before places list 0 0
  sifting_start z =
      record {
        fewer = omega arith;
        held = λ a h p. absurd (omega (arith, z a, p));
        leaves = λ u h. absurd (omega arith);
        rising = λ u v h k. absurd (omega arith);
        passed = λ u h. absurd (omega arith);
        stays = λ i a. absurd (omega (arith, a.below));
      }

hit_more : {f : ℕ → ℕ} {t i : ℕ} → Hit f t i → Hit f (t + 1) i
hit_more a = record { place = a.place; below = omega (arith, a.below); is = a.is }

hit_last : (f : ℕ → ℕ) (t : ℕ) → Hit f (t + 1) (f t)
hit_last f t = record { place = t; below = omega arith; is = refl }

-- one of t + 1 is one of t, or the last
hit_split : {f : ℕ → ℕ} {t i : ℕ} → Hit f (t + 1) i → (f t ≡ i) ⊎ Hit f t i
hit_split {f} {t} a =
    ⊎_elim
    (λ (e : a.place ≡ t). inl (sym (ap f e) ∙ a.is))
    (λ (l : a.place < t). inr (record { place = a.place; below = l; is = a.is }))
    (eq-or-lt_of_le (omega (arith, a.below)))

-- one entry set at the end of those that are left
hit_set : (list : List ℕ) (k x : ℕ) {i : ℕ} → k < length list → Hit (at list) k i → Hit (at (set list k x)) (k + 1) i
hit_set list k x {i} l a =
    record {
      place = a.place;
      below = omega (arith, a.below);
      is = after-set (λ (z : ℕ). z ≡ i) list k a.place x 0 l (λ e. absurd (omega (arith, a.below, e))) (λ e. a.is);
    }

module _ {key : ℕ → ℕ} {spot : Bool → ℕ → ℕ} {before : ℕ → ℕ} {places list : List ℕ} {t left : ℕ}
    (s : Sifting key spot before places list t left) where
  -- the record that is looked at has a place for itself, and stays
  stay : (b : Bool) {i e : ℕ} → i ≡ before t → e ≡ spot b (key i) → get_or places e 0 ≡ 0 → e < length places
      → (b ≡ true → Another key places (spot false (key i)) (key i))
      → Sifting key spot before (set places e (i + 1)) list (t + 1) left
  stay b {i} {e} is spot_is empty l first =
      record {
        fewer = omega (arith, s.fewer);
        held = λ a h.
            after-set (λ (z : ℕ). z ≡ suc h → Hit before (t + 1) h) places e a (i + 1) 0 l
            (λ q p. let same : i ≡ h = omega (arith, p) in rw (sym same, is) (hit_last before t))
            (λ q p. hit_more (s.held a h p));
        leaves = λ u h. hit_more (s.leaves u h);
        rising = s.rising;
        passed = λ u h c. another_set places e (i + 1) l empty (s.passed u h c);
        stays = λ j a. ⊎_elim (λ (q : before t ≡ j). inl (here j (is ∙ q))) (λ (c : Hit before t j). still j (s.stays j c)) (hit_split a);
      }
    where
      here : (j : ℕ) → i ≡ j → Stays key spot (set places e (i + 1)) j
      here j q =
          rw (sym q)
          (record {
            second = b;
            there = rw (sym spot_is) (get_or-set_same places e (i + 1) 0 l ∙ add-one i);
            passed = λ c. another_set places e (i + 1) l empty (first c);
          })

      still : (j : ℕ) → Stays key spot places j ⊎ Hit (at list) left j → Stays key spot (set places e (i + 1)) j ⊎ Hit (at list) left j
      still j (inl w) =
          inl
          (record {
            second = w.second;
            there = after-set (λ (z : ℕ). z ≡ suc j) places e (spot w.second (key j)) (i + 1) 0 l
                (λ q. absurd (omega (arith, w.there, ap (λ a. get_or places a 0) q, empty)))
                (λ q. w.there);
            passed = λ c. another_set places e (i + 1) l empty (w.passed c);
          })
      still j (inr c) = inr c

  -- it has found other keys at both places, and is left
  leave : {i : ℕ} → i ≡ before t → Another key places (spot false (key i)) (key i) → Another key places (spot true (key i)) (key i)
      → left < length list → ((u : ℕ) → u < t → before u < before t) → Sifting key spot before places (set list left i) (t + 1) (left + 1)
  leave {i} is first second l up =
      record {
        fewer = omega (arith, s.fewer);
        held = λ a g p. hit_more (s.held a g p);
        leaves = λ u k. by_end (λ v. Hit before (t + 1) (at (set list left i) v)) u k
            (rw (now_there, is) (hit_last before t))
            (λ b. rw (as_was u (λ q. omega (arith, q, b))) (hit_more (s.leaves u b)));
        rising = λ u v k b.
            ⊎_elim
            (λ (q : v ≡ left). rw (as_was u (λ r. omega (arith, r, q, k)), q, now_there, is) (lower u (omega (arith, q, k))))
            (λ (c : v < left). rw (as_was u (λ r. omega (arith, r, c, k)), as_was v (λ r. omega (arith, r, c))) (s.rising u v k c))
            (eq-or-lt_of_le (omega (arith, b)));
        passed = λ u k c. by_end (λ v. Another key places (spot c (key (at (set list left i) v))) (key (at (set list left i) v))) u k
            (rw now_there (both c))
            (λ b. rw (as_was u (λ q. omega (arith, q, b))) (s.passed u b c));
        stays = λ j a.
            ⊎_elim
            (λ (q : before t ≡ j). inr (record { place = left; below = omega arith; is = now_there ∙ is ∙ q }))
            (λ (b : Hit before t j). ⊎_elim (λ p. inl p) (λ c. inr (hit_set list left i l c)) (s.stays j b))
            (hit_split a);
      }
    where
      both : (b : Bool) → Another key places (spot b (key i)) (key i)
      both false = first
      both true = second

      now_there : at (set list left i) left ≡ i
      now_there = get_or-set_same list left i 0 l

      as_was : (u : ℕ) → (u ≡ left → ⊥) → at (set list left i) u ≡ at list u
      as_was u q = get_or-set_other list left u i 0 q

      lower : (u : ℕ) → u < left → at list u < before t
      lower u k = let b = s.leaves u k in rw (sym b.is) (up b.place b.below)

      by_end : (P : ℕ → Type 0) (u : ℕ) → u < left + 1 → P left → (u < left → P u) → P u
      by_end P u k a b = ⊎_elim (λ (q : u ≡ left). rw q a) b (eq-or-lt_of_le (omega arith))

  -- the places are as they were
  pub as_was : {now : List ℕ} → now ≡ places → Sifting key spot before now list t left
  as_was q = rw q s

  -- the places have records that were looked at
  pub held_few : {n m : ℕ} → Rising n m before → t < m → (e : ℕ) → get_or places e 0 ≤ n
  held_few {n} r h e = within (get_or places e 0) refl
    where
      within : (a : ℕ) → get_or places e 0 ≡ a → a ≤ n
      within zero p = omega arith
      within (suc a) p = let b = s.held e a p in let below = r.below b.place (omega (arith, b.below)) in omega (arith, b.is)

  -- an entry after those that are left may be anything
  scribbled : (v : ℕ) → left < t → Sifting key spot before places (set list left v) t left
  scribbled v h =
      record {
        fewer = s.fewer;
        held = s.held;
        leaves = λ u k. rw (as_it_was u k) (s.leaves u k);
        rising = λ u w k l. rw (as_it_was u (omega arith), as_it_was w l) (s.rising u w k l);
        passed = λ u k c. rw (as_it_was u k) (s.passed u k c);
        stays = λ i a. ⊎_elim (λ p. inl p) (λ c. inr (record { place = c.place; below = c.below; is = as_it_was c.place c.below ∙ c.is })) (s.stays i a);
      }
    where
      as_it_was : (u : ℕ) → u < left → at (set list left v) u ≡ at list u
      as_it_was u k = get_or-set_other list left u v 0 (λ q. omega (arith, q))

  -- where one with a key stays none with the same is left
  stays_alone : (i j : ℕ) → Stays key spot places i → Hit (at list) left j → key i ≡ key j → ⊥
  stays_alone i j w a e =
      (s.passed a.place a.below w.second).differ i
      (ap (λ k. get_or places (spot w.second (key k)) 0) a.is ∙ ap (λ k. get_or places (spot w.second k) 0) (sym e) ∙ w.there)
      (e ∙ sym (ap key a.is))

  -- and none with the same stays
  stay_apart : (i j : ℕ) → Stays key spot places i → Stays key spot places j → key i ≡ key j → i ≡ j
  stay_apart i j w v e = go w.second v.second w.there v.there w.passed v.passed
    where
      go : (b c : Bool) → get_or places (spot b (key i)) 0 ≡ suc i → get_or places (spot c (key j)) 0 ≡ suc j
          → (b ≡ true → Another key places (spot false (key i)) (key i)) → (c ≡ true → Another key places (spot false (key j)) (key j)) → i ≡ j
      go true true p q f g = omega (arith, p, q, ap (λ k. get_or places (spot true k) 0) e)
      go false false p q f g = omega (arith, p, q, ap (λ k. get_or places (spot false k) 0) e)
      go true false p q f g = absurd ((f refl).differ j (ap (λ k. get_or places (spot false k) 0) e ∙ q) (sym e))
      go false true p q f g = absurd ((g refl).differ i (ap (λ k. get_or places (spot false k) 0) (sym e) ∙ p) e)

  -- two that have one key are both left
  both_left : (i j : ℕ) → Hit before t i → Hit before t j → j < i → key j ≡ key i → Hit (at list) left i × Hit (at list) left j
  both_left i j a b l e = go (s.stays i a) (s.stays j b)
    where
      go : Stays key spot places i ⊎ Hit (at list) left i → Stays key spot places j ⊎ Hit (at list) left j → Hit (at list) left i × Hit (at list) left j
      go (inl p) (inl q) = absurd (omega (arith, stay_apart i j p q (sym e), l))
      go (inl p) (inr q) = absurd (stays_alone i j p q (sym e))
      go (inr p) (inl q) = absurd (stays_alone j i q p e)
      go (inr p) (inr q) = (p, q)

  was_listed : {m i : ℕ} → t ≤ m → Hit (at list) left i → Hit before m i
  was_listed w a = let b = s.leaves a.place a.below in record { place = b.place; below = omega (arith, b.below); is = b.is ∙ a.is }

  -- what is right for those that are left
  pub sifted : {n m found : ℕ} → t ≤ m → found ≤ n → (found < n → Repeats key before m found)
      → ((u : ℕ) → t ≤ u → u < m → found ≤ before u)
      → ((u v : ℕ) → u < v → v < m → before u < before v) → ((u : ℕ) → u < m → before u < n)
      → Sifts key n m before list found left
  sifted {n} {m} {found} within few repeats later up below =
      record {
        fewer = omega (arith, s.fewer);
        listed = record {
          below = λ u h. let b = s.leaves u h in rw (sym b.is) (below b.place (omega (arith, b.below)));
          rising = s.rising;
        };
        answers = λ o w.
            record {
              within = le_trans (least-below-second o found) few;
              repeats = by_least o w (leb o found);
              lowest = λ j k a b l e. lowest_by o w j k a b l e (dec_lt b.place t);
            };
      }
    where
      by_least : (o : ℕ) → FirstOf key (at list) n left o → (b : Bool) → cond b o found < n → Repeats key before m (cond b o found)
      by_least o w true h =
          let r = w.repeats h in
          record { listed = was_listed within r.listed; other = r.other; listed_too = was_listed within r.listed_too; lower = r.lower; same = r.same }
      by_least o w false h = repeats h

      lowest_by : (o : ℕ) → FirstOf key (at list) n left o → (j k : ℕ) (a : Hit before m j) (b : Hit before m k) → j < k → key j ≡ key k
          → Dec (b.place < t) → least o found ≤ k
      lowest_by o w j k a b l e (no h) = le_trans (least-below-second o found) (rw b.is at (later b.place (omega arith) b.below))
      lowest_by o w j k a b l e (yes h) = both (dec_lt a.place t)
        where
          both : Dec (a.place < t) → least o found ≤ k
          both (yes g) =
              let c = both_left k j (record { place = b.place; below = h; is = b.is }) (record { place = a.place; below = g; is = a.is }) l e in
              le_trans (least-below-first o found) (w.lowest j k c.1 c.0 l e)
          both (no g) = absurd (omega (arith, up b.place a.place (omega arith) a.below, a.is, b.is, l))

  module _ {n m : ℕ} (up : (u v : ℕ) → u < v → v < m → before u < before v) (below : (u : ℕ) → u < m → before u < n) where
    -- the record that is looked at has the key of one that stays
    pub sifted_found : {i x : ℕ} → t < m → i ≡ before t → x ≡ key i → Holds key places x → Sifts key n m before list i left
    sifted_found {i} l is key-is w =
        sifted
        (omega arith)
        (let b = below t l in omega (arith, is))
        (λ k.
        let b = s.held w.place w.holder w.there in
        record {
          listed = record { place = t; below = l; is = sym is };
          other = w.holder;
          listed_too = record { place = b.place; below = omega (arith, b.below); is = b.is };
          lower = let c = up b.place t b.below l in omega (arith, c, b.is, is);
          same = w.same ∙ key-is;
        })
        (λ u k b.
        ⊎_elim (λ (q : t ≡ u). omega (arith, ap before q, is)) (λ (q : t < u). let c = up t u q b in omega (arith, is)) (eq-or-lt_of_le k))
        up
        below

    -- all records are looked at
    pub sifted_all : t ≤ m → m ≤ t → Sifts key n m before list n left
    sifted_all l k = sifted l (omega arith) (λ h. absurd (omega arith)) (λ u a b. absurd (omega arith)) up below

-- ---- one record more

module _ {key : ℕ → ℕ} {spot : Bool → ℕ → ℕ} {before : ℕ → ℕ} {places list : List ℕ} {t left : ℕ}
    (s : Sifting key spot before places list t left) {i : ℕ} (is : i ≡ before t) {places' list' : List ℕ} {left' : ℕ} where
  -- it stays at its first place, or at its second, or is left
  pub tried : ((b : Bool) → spot b (key i) < length places) → left < length list → ((u : ℕ) → u < t → before u < before t)
      → First (spot false (key i)) places list left i places' list' left'
      ⊎ Second key (spot false (key i)) (spot true (key i)) places list left i places' list' left'
      → Sifting key spot before places' list' (t + 1) left'
  tried l room up (inl w) = rw (w.comes.is, w.entry, w.count) (stay s false is refl w.comes.empty (l false) (λ q. absurd (false≢true q)))
  tried l room up (inr w) = rw (w.puts.place, w.puts.entry, w.puts.count) (go (get_or places (spot true (key i)) 0) refl)
    where
      go : (held : ℕ) → get_or places (spot true (key i)) 0 ≡ held
          → Sifting key spot before (set places (spot true (key i)) (kept held (i + 1))) (set list left i) (t + 1) (more left held)
      go zero p = scribbled (stay s true is refl p (l true) (λ q. w.first)) i (omega (arith, s.fewer))
      go (suc h) p =
          let taken : eqb (suc h) 0 ≡ false = ne_eqb (suc h) 0 (λ q. omega (arith, q)) in
          let same : set places (spot true (key i)) (suc h) ≡ places =
          ap (λ k. set places (spot true (key i)) k) (sym p) ∙ set-get_or places (spot true (key i)) 0 in
          rw (taken, same) (leave s is w.first (w.second (λ q. omega (arith, p, q))) room up)

-- the list's entries from t on are as they were
abbrev pub Ahead : (ℕ → ℕ) → List ℕ → ℕ → Type 0
Ahead before list t = (u : ℕ) → t ≤ u → at list u ≡ before u

-- so is the record at t
pub listed-ahead : (b : Bool) (list before : List ℕ) (t : ℕ) → Ahead (at before) list t → listed b list t ≡ listed b before t
listed-ahead true list before t w = w t (omega arith)
listed-ahead false list before t w = refl

pub ahead : {key before : ℕ → ℕ} {a b t left i left' : ℕ} {places list places' list' : List ℕ} → left ≤ t → Ahead before list t
    → First a places list left i places' list' left' ⊎ Second key a b places list left i places' list' left' → Ahead before list' (t + 1)
ahead few w (inl p) u h = ap (λ l. at l u) p.entry ∙ w u (omega arith)
ahead {left = left} {i = i} {list = list} few w (inr p) u h =
    ap (λ l. at l u) p.puts.entry ∙ get_or-set_other list left u i 0 (λ q. omega (arith, q)) ∙ w u (omega arith)
