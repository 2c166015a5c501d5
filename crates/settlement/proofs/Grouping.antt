-- The changes of a group of marks, valued side by side, are those of the marks.
use mathlib.Core.Path.{◌≡◌, refl, sym, ap, ap₂, ◌∙◌}
use mathlib.Core.Logic.{◌≢◌}
use mathlib.Core.Bool.{Bool, true, false}
use mathlib.Core.List.{List}
use Prim.Native.Nat.{ℕ, zero, suc, ◌+◌, ◌-◌, ◌≤◌, ◌<◌}
use native.Mathlib.Nat.{le_trans}
use native.Mathlib.Omega.{arith}
use native.Mathlib.Numerals.{add-one}
use borrow.Author.Tests.{eqb-true, eqb-false, ltb-true, ltb-false, lt-ltb, le-ltb}
use lib.Dec.{eqb, ltb}
use lib.IntN.{ℤ, pos}
use lib.ListN.{length, get_or, set, replicate, length-set, length-replicate, get_or-replicate}
use lib.Seq.{get_or-set_same, get_or-set_other, ext_get_or}
use Rattle.numbers.specs.Folds.{Filled}
use Rattle.numbers.proofs.Truth.{and_left, and_right, not_both}
use Rattle.numbers.proofs.Tables.{table_same, length_front}
use Rattle.dayfile.specs.Limits.{file_limits}
use Rattle.dayfile.specs.Records.{mark_at}
use Rattle.dayfile.specs.declared.records.Mark.{Mark}
use Rattle.dayfile.specs.declared.records.Correction.{Correction}
use Rattle.products.specs.Products.{same_code}
use Rattle.products.specs.declared.table.Code.{Code}
use Rattle.pricing.specs.Calls.{lanes, or_zero, value_of, values_or_zero}
use Rattle.pricing.proofs.SideBySide.{values_at}
use Rattle.settlement.specs.ContractValue.{value_or_zero}
use Rattle.settlement.specs.Prices.{final_of, change_of}
use Rattle.settlement.specs.SettlingSteps.{changes_of, blank}
use Rattle.settlement.specs.Groups.{group_size, alike_in, Grouped, Capped, last_of, lane_price, lanes_change, set_all, Right, Worked, Works}
use Rattle.settlement.proofs.Pricing.{value_bound}
use Rattle.settlement.proofs.Changes.{change_at, change_past, blank-at, length-blank}

same_codes : (a b : Code) → same_code a b ≡ true → a ≡ b
unfolding same_code
same_codes a b e =
    let f = and_left (eqb a.0 b.0) (eqb a.1 b.1) e in
    let g = and_right (eqb a.0 b.0) (eqb a.1 b.1) e in
    ap₂ (λ (x y : ℕ). record { 0 = x; 1 = y }) (eqb-true _ _ f) (eqb-true _ _ g)

pub alike_codes : (ms : List Mark) (i j : ℕ) {b : Bool} → b ≡ alike_in ms i j → b ≡ true → (mark_at ms i).code ≡ (mark_at ms j).code
unfolding alike_in
alike_codes ms i j e t = same_codes (mark_at ms i).code (mark_at ms j).code (sym e ∙ t)

-- a group as it is gathered
pub grouped_one : (ms : List Mark) {n i : ℕ} → i < n → Grouped ms n i (replicate group_size i)
grouped_one ms {n} {i} h =
    record {
      size = refl;
      here = refl;
      inside = λ k l. rw (get_or-replicate group_size k i 0 l) h;
      alike = λ k l. ap (λ (m : ℕ). (mark_at ms m).code) (get_or-replicate group_size k i 0 l);
    }

pub grouped_more : (ms : List Mark) {n i : ℕ} {g : List ℕ} {count m : ℕ} → 1 ≤ count → count < group_size → m < n
    → (mark_at ms m).code ≡ (mark_at ms i).code → Grouped ms n i g → Grouped ms n i (set g count m)
grouped_more ms {n} {i} {g} {count} {m} f h l e a =
    record {
      size = simp length-set a.size;
      here = get_or-set_other g count 0 m 0 (λ q. omega arith) ∙ a.here;
      inside = λ k r. go_inside k r (eqb k count) refl;
      alike = λ k r. go_alike k r (eqb k count) refl;
    }
  where
    low : count < length g
    low = omega (arith, a.size)

    go_inside : (k : ℕ) → k < group_size → (b : Bool) → eqb k count ≡ b → get_or (set g count m) k 0 < n
    go_inside k r true p = rw (eqb-true k count p, get_or-set_same g count m 0 low) l
    go_inside k r false p = rw (get_or-set_other g count k m 0 (eqb-false k count p)) (a.inside k r)

    go_alike : (k : ℕ) → k < group_size → (b : Bool) → eqb k count ≡ b → (mark_at ms (get_or (set g count m) k 0)).code ≡ (mark_at ms i).code
    go_alike k r true p = rw (eqb-true k count p, get_or-set_same g count m 0 low) e
    go_alike k r false p = rw (get_or-set_other g count k m 0 (eqb-false k count p)) (a.alike k r)

-- stores
pub set-none : {A : Type 0} (g : List ℕ) (f : ℕ → A) (a : List A) → a ≡ set_all 0 g f a
unfolding set_all
set-none g f a = refl

pub set_more : {A : Type 0} (g : List ℕ) (f : ℕ → A) (a : List A) (k : ℕ) {b : List A} {v : A} → b ≡ set_all k g f a → v ≡ f k → set b (get_or g k 0) v ≡ set_all (k + 1) g f a
unfolding set_all
set_more g f a k e h = rw (add-one k, e, h)

length_all : {A : Type 0} (n : ℕ) (g : List ℕ) (f : ℕ → A) (a : List A) → length (set_all n g f a) ≡ length a
unfolding set_all
length_all zero g f a = refl
length_all (suc n) g f a = simp length-set (length_all n g f a)

right_set : (target a : List ℤ) (x : ℕ) {v : ℤ} → x < length a → v ≡ get_or target x (pos 0) → (j : ℕ) → (j ≢ x → Right target a j) → Right target (set a x v) j
right_set target a x {v} h e j r = go (eqb j x) refl
  where
    go : (b : Bool) → eqb j x ≡ b → Right target (set a x v) j
    go true p = rw (eqb-true j x p) (get_or-set_same a x v (pos 0) h ∙ e)
    go false p = get_or-set_other a x j v (pos 0) (eqb-false j x p) ∙ r (eqb-false j x p)

module _ (target : List ℤ) (g : List ℕ) (f : ℕ → ℤ) (a : List ℤ) where
  keeps_all : (n : ℕ) → ((k : ℕ) → k < n → get_or g k 0 < length a) → ((k : ℕ) → k < n → f k ≡ get_or target (get_or g k 0) (pos 0)) → (j : ℕ) → Right target a j → Right target (set_all n g f a) j
  unfolding set_all
  keeps_all zero fits good j r = r
  keeps_all (suc n) fits good j r =
      right_set target (set_all n g f a) (get_or g n 0) (rw (length_all n g f a) (fits n (omega arith))) (good n (omega arith)) j
      (λ q. keeps_all n (λ k l. fits k (omega arith)) (λ k l. good k (omega arith)) j r)

  right_all : (n : ℕ) → ((k : ℕ) → k < n → get_or g k 0 < length a) → ((k : ℕ) → k < n → f k ≡ get_or target (get_or g k 0) (pos 0)) → (k : ℕ) → k < n → Right target (set_all n g f a) (get_or g k 0)
  unfolding set_all
  right_all zero fits good k l = absurd (omega arith)
  right_all (suc n) fits good k l =
      right_set target (set_all n g f a) (get_or g n 0) (rw (length_all n g f a) (fits n (omega arith))) (good n (omega arith)) (get_or g k 0)
      (λ q. right_all n (λ k l. fits k (omega arith)) (λ k l. good k (omega arith)) k (go (eqb k n) refl q))
    where
      go : (b : Bool) → eqb k n ≡ b → get_or g k 0 ≢ get_or g n 0 → k < n
      go true p q = absurd (q (ap (λ (x : ℕ). get_or g x 0) (eqb-true k n p)))
      go false p q = let d = eqb-false k n p in below d
        where
          below : k ≢ n → k < n
          below d = omega (arith, l, d)

flagged_all : (target b : List ℤ) (g : List ℕ) (done : List Bool) (n : ℕ) → ((k : ℕ) → k < n → get_or g k 0 < length done) → ((j : ℕ) → get_or done j false ≡ true → Right target b j)
    → ((k : ℕ) → k < n → Right target b (get_or g k 0)) → (j : ℕ) → get_or (set_all n g (λ k. true) done) j false ≡ true → Right target b j
unfolding set_all
flagged_all target b g done zero fits old new j e = old j e
flagged_all target b g done (suc n) fits old new j e =
    go (flagged_all target b g done n (λ k l. fits k (omega arith)) old (λ k l. new k (omega arith)) j) (eqb j (get_or g n 0)) refl
  where
    go : (get_or (set_all n g (λ k. true) done) j false ≡ true → Right target b j) → (t : Bool) → eqb j (get_or g n 0) ≡ t → Right target b j
    go rest true p = rw (eqb-true j (get_or g n 0) p) (new n (omega arith))
    go rest false p = rest (sym (get_or-set_other (set_all n g (λ k. true) done) (get_or g n 0) j true false (eqb-false j (get_or g n 0) p)) ∙ e)

-- the lanes
module _ (ms : List Mark) (finals : List ℕ) {i : ℕ} {g p v : List ℕ} {code : Code} (a : Grouped ms (length ms) i g) (is : code ≡ (mark_at ms i).code)
    (prices : Filled 0 (lane_price ms finals g) lanes p) (values : v ≡ values_or_zero code p) where
  lane_value : (k : ℕ) → k < lanes → get_or v k 0 ≡ value_or_zero code (lane_price ms finals g k)
  unfolding value_or_zero
  lane_value k h = ap (λ (x : List ℕ). get_or x k 0) values ∙ values_at code p k h ∙ ap (λ (x : ℕ). or_zero (value_of code x)) (prices.entry k h)

  pub lanes_capped : Capped v
  lanes_capped = record { lane = λ k h. rw (lane_value k h) (value_bound code (lane_price ms finals g k)) }

  lane-last : (k : ℕ) → k < group_size → get_or v k 0 ≡ value_or_zero (mark_at ms (get_or g k 0)).code (last_of finals (get_or g k 0))
  lane-last k h = lane_value k (omega arith) ∙ rw (lt-ltb k group_size h, is, a.alike k h)

  lane_previous : (k : ℕ) → k < group_size → get_or v (k + group_size) 0 ≡ value_or_zero (mark_at ms (get_or g k 0)).code (mark_at ms (get_or g k 0)).previous
  lane_previous k h =
      let e : k + group_size - group_size ≡ k = omega arith in
      lane_value (k + group_size) (omega arith) ∙ rw (le-ltb (k + group_size) group_size (omega arith), e, is, a.alike k h)

  pub lanes_right : (k : ℕ) → k < group_size → lanes_change v k ≡ get_or (changes_of ms (last_of finals)) (get_or g k 0) (pos 0)
  unfolding change_of
  lanes_right k h = by_values ∙ sym (change_at ms (last_of finals) (get_or g k 0) (a.inside k h))
    where
      by_values : lanes_change v k ≡ change_of ms (last_of finals) (get_or g k 0)
      by_values = rw (lane-last k h, lane_previous k h)

-- a group's step
pub works : (target : List ℤ) (g v : List ℕ) {ms : List Mark} {n i : ℕ} {c d : List ℤ} {e f : List Bool} → n ≤ file_limits.marks → Grouped ms n i g
    → ((k : ℕ) → k < group_size → lanes_change v k ≡ get_or target (get_or g k 0) (pos 0)) → d ≡ set_all group_size g (lanes_change v) c → f ≡ set_all group_size g (λ k. true) e → Works target i c e d f
works target g v {ms} {n} {i} {c} {d} {e} {f} few a good is-d is_f =
    record {
      worked = λ w. rw (is-d, is_f)
          (record {
            size = length_all group_size g (lanes_change v) c ∙ w.size;
            flags = length_all group_size g (λ k. true) e ∙ w.flags;
            flagged = flagged_all target (set_all group_size g (lanes_change v) c) g e group_size (λ k l. rw w.flags (places k l))
                (λ j q. keeps_all target g (lanes_change v) c group_size (λ k l. rw w.size (places k l)) good j (w.flagged j q))
                (right_all target g (lanes_change v) c group_size (λ k l. rw w.size (places k l)) good);
          });
      keeps = λ w j r. rw is-d (keeps_all target g (lanes_change v) c group_size (λ k l. rw w.size (places k l)) good j r);
      here = λ w. rw (is-d, ← a.here) (right_all target g (lanes_change v) c group_size (λ k l. rw w.size (places k l)) good 0 (omega arith));
    }
  where
    places : (k : ℕ) → k < group_size → get_or g k 0 < file_limits.marks
    places k l = le_trans (a.inside k l) few

-- one mark's step
pub works_one : (target : List ℤ) {i : ℕ} {c : List ℤ} {e : List Bool} {v : ℤ} → i < file_limits.marks → v ≡ get_or target i (pos 0) → Works target i c e (set c i v) e
works_one target {i} {c} {e} {v} h is =
    record {
      worked = λ w. record { size = simp length-set w.size; flags = w.flags; flagged = λ j q. right_set target c i (rw w.size h) is j (λ n. w.flagged j q) };
      keeps = λ w j r. right_set target c i (rw w.size h) is j (λ n. r);
      here = λ w. right_set target c i (rw w.size h) is i (λ n. absurd (n refl));
    }

-- a mark that is done needs none
pub works_done : (target : List ℤ) {i : ℕ} {c : List ℤ} {e : List Bool} → get_or e i false ≡ true → Works target i c e c e
works_done target {i} q = record { worked = λ w. w; keeps = λ w j r. r; here = λ w. w.flagged i q }

-- the loop over the marks at i: those before it and those past the last mark are right
pub record Reached (target : List ℤ) (n i : ℕ) (a : List ℤ) (done : List Bool) : Type 0 where
  pub worked : Worked target a done
  pub before : (j : ℕ) → j < i → Right target a j
  pub past : (j : ℕ) → n ≤ j → Right target a j

falses_at : (n j : ℕ) → get_or (replicate n false) j false ≡ false
falses_at zero j = refl
falses_at (suc n) zero = refl
falses_at (suc n) (suc j) = falses_at n j

pub reached_none : (ms : List Mark) (final : ℕ → ℕ) → Reached (changes_of ms final) (length ms) 0 blank (replicate file_limits.marks false)
reached_none ms final =
    record {
      worked = record { size = length-blank; flags = length-replicate file_limits.marks false; flagged = λ j q. absurd (not_both q (falses_at file_limits.marks j)) };
      before = λ j h. absurd (omega arith);
      past = λ j h. blank-at j ∙ sym (change_past ms final j h);
    }

pub reached_more : (target : List ℤ) {n i : ℕ} {a a' : List ℤ} {done done' : List Bool} → Works target i a done a' done' → Reached target n i a done → Reached target n (i + 1) a' done'
reached_more target {n} {i} {a} {a'} s r =
    record {
      worked = s.worked r.worked;
      before = λ j l. go j l (eqb j i) refl;
      past = λ j l. s.keeps r.worked j (r.past j l);
    }
  where
    go : (j : ℕ) → j < i + 1 → (b : Bool) → eqb j i ≡ b → Right target a' j
    go j l true p = rw (eqb-true j i p) (s.here r.worked)
    go j l false p = let d = eqb-false j i p in s.keeps r.worked j (r.before j (omega (arith, l, d)))

pub reached_all : (ms : List Mark) (final : ℕ → ℕ) {i : ℕ} {a : List ℤ} {done : List Bool}
    → length ms ≤ file_limits.marks → length ms ≤ i → Reached (changes_of ms final) (length ms) i a done → a ≡ changes_of ms final
reached_all ms final {i} {a} few h r =
    ext_get_or (pos 0) a (changes_of ms final) (r.worked.size ∙ sym (length_front (change_of ms final) blank (length ms) (rw length-blank few) ∙ length-blank)) (λ j l. go j (ltb j (length ms)) refl)
  where
    go : (j : ℕ) (b : Bool) → ltb j (length ms) ≡ b → Right (changes_of ms final) a j
    go j true p = r.before j (le_trans (ltb-true j (length ms) p) h)
    go j false p = r.past j (ltb-false j (length ms) p)

-- by the list of final prices or by the final prices
pub changes_by : (ms : List Mark) (cs : List Correction) {finals : List ℕ} → Filled 0 (final_of ms cs) (length ms) finals → changes_of ms (last_of finals) ≡ changes_of ms (final_of ms cs)
unfolding change_of
changes_by ms cs {finals} a = rw (table_same (change_of ms (last_of finals)) (change_of ms (final_of ms cs)) (length ms) (λ i h. rw (a.entry i h)))
