-- The two places of a key, and what it means that another key is there.
use Rattle.std.proofs.Common.{◌≡◌, ℕ, suc, ◌+◌, ◌-◌, ◌*◌, ◌/◌, ◌%◌, ◌^◌, ◌<◌, ◌≤◌, Bool, true, false, cond, List, length, get_or, take, set, replicate, sym, ap, ◌∙◌, lt_of_lt_of_le, div-lt_iff_lt-mul, arith, length-take-le, pow_pos}
use lib.ListN.{length-replicate}
use Rattle.pairs.specs.Keys.{word}
use Rattle.pairs.specs.Sifting.{place_of, first_place, second_place, Places, Sixteenth, Another}
use Rattle.pairs.proofs.Trees.{after-set}

-- the two places of a key
abbrev pub spot_of : ℕ → Bool → ℕ → ℕ
spot_of shift second x = cond second (second_place shift x) (first_place shift x)

-- a place is one of the list's
pub place-below : (lower upper x : ℕ) {shift n : ℕ} {list : List ℕ} → Places shift list → n ≡ length list → place_of lower upper shift x < n
unfolding place_of
place-below lower upper x {shift} p all = rw all ((div-lt_iff_lt-mul (pow_pos shift)).1 (lt_of_lt_of_le below p.room))
  where
    below : (x % word * lower % word + x / word * upper % word) % word < word
    below = omega arith

pub spot_below : (x : ℕ) {shift n : ℕ} {list : List ℕ} → Places shift list → n ≡ length list → (b : Bool) → spot_of shift b x < n
spot_below x p all true = place-below _ _ x p all
spot_below x p all false = place-below _ _ x p all

-- places that are all empty
pub places_in : (shift places : ℕ) → shift < 64 → word ≤ places * 2 ^ shift → Places shift (replicate places 0)
places_in shift places short room = let z : ℕ = 0 in record { short = short; room = rw (length-replicate places z) room }

pub sixteenth_in : (shift places : ℕ) → shift + 4 < 64 → word ≤ places / 16 * 2 ^ (shift + 4) → Sixteenth shift (replicate places 0)
sixteenth_in shift places short room = let z : ℕ = 0 in record { short = short; room = rw (length-replicate places z) room }

-- as many places as before
pub places_as : {shift : ℕ} {list now : List ℕ} → length now ≡ length list → Places shift list → Places shift now
places_as q p = record { short = p.short; room = rw q p.room }

pub sixteenth_as : {shift : ℕ} {list now : List ℕ} → length now ≡ length list → Sixteenth shift list → Sixteenth shift now
sixteenth_as q p = record { short = p.short; room = rw q p.room }

-- the first sixteenth of a list
pub few_of : (list : List ℕ) → length list / 16 ≡ length (take (length list / 16) list)
few_of list = sym (length-take-le (length list / 16) list (omega arith))

pub places_few : {shift : ℕ} {list : List ℕ} → Sixteenth shift list → Places (shift + 4) (take (length list / 16) list)
places_few {list = list} p = record { short = p.short; room = rw (sym (few_of list)) p.room }

-- what is read at a place that is not empty is the number of a record and one
pub holder : {w x : ℕ} → w ≡ x → (w ≡ 0 → ⊥) → x ≡ suc (w - 1)
holder is full = omega (arith, is, full)

pub another : {key : ℕ → ℕ} {places : List ℕ} {a x h : ℕ} → get_or places a 0 ≡ suc h → (key h ≡ x → ⊥) → Another key places a x
another {key} {places} {a} {x} {h} is other =
    record {
      full = λ p. omega (arith, p, is);
      differ = λ g p q. let same : g ≡ h = omega (arith, p, is) in other (ap key (sym same) ∙ q);
    }

-- it stays so where a record comes to an empty place
pub another_set : {key : ℕ → ℕ} (places : List ℕ) (e v : ℕ) {a x : ℕ} → e < length places → get_or places e 0 ≡ 0 → Another key places a x
    → Another key (set places e v) a x
another_set {key} places e v {a} {x} l empty w =
    record {
      full = after-set (λ (z : ℕ). z ≡ 0 → ⊥) places e a v 0 l (λ q. absurd (w.full (ap (λ k. get_or places k 0) q ∙ empty))) (λ q. w.full);
      differ = λ h.
          after-set (λ (z : ℕ). z ≡ suc h → key h ≡ x → ⊥) places e a v 0 l
          (λ q. absurd (w.full (ap (λ k. get_or places k 0) q ∙ empty)))
          (λ q. w.differ h);
    }
