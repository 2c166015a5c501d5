-- Sifting a list. No statement of what the code answers rests on this.
use Rattle.std.specs.Prelude.{◌≡◌, ℕ, suc, ◌+◌, ◌*◌, ◌/◌, ◌%◌, ◌^◌, ◌<◌, ◌≤◌, Bool, true, false, cond, ◌⊎◌, List, length, ◌==◌, ◌≢◌, bit_xor, slice_index, slice_index_or, slice_set, Option, Some, None}
use Rattle.pairs.specs.Keys.{word, least, most}
use Rattle.pairs.specs.Indices.{at, FirstOf, Rising}
use Rattle.pairs.specs.declared.places.Placed.{Placed}
use Rattle.pairs.specs.declared.places.Placed.TheVariants.{Stays, Repeats, Differs}
use Rattle.pairs.specs.declared.places.Step.{Step}
use Rattle.pairs.specs.declared.places.Step.TheVariants.{Repeated, GivenUp, Left}
use Rattle.pairs.specs.declared.sift.Sifted.{Sifted}

-- where a key has its place
unfoldable pub place_of : ℕ → ℕ → ℕ → ℕ → ℕ
place_of lower upper shift x = (x % word * lower % word + x / word * upper % word) % word / 2 ^ shift

-- its first place, and its second, for which the factors change their parts
abbrev pub first_place : ℕ → ℕ → ℕ
first_place = place_of 2_654_435_761 1_973_900_851

abbrev pub second_place : ℕ → ℕ → ℕ
second_place = place_of 1_973_900_851 2_654_435_761

-- multiples of the two halves of a number, bit by bit
abbrev pub multiples : ℕ → ℕ
multiples y = bit_xor (y % word * 2_246_822_519) (y / word * 3_266_489_917)

-- its lower bits, changed by higher ones
abbrev pub folded : ℕ → ℕ
folded z = bit_xor z (z / 2 ^ 29)

-- what a key's places are made of: the key, or multiples of its halves with a seed
abbrev pub stirred_by : Option ℕ → ℕ → ℕ
stirred_by (Some seed) x = folded (multiples (bit_xor x seed))
stirred_by None x = x

-- a list has room for all these places
pub record Places (shift : ℕ) (list : List ℕ) : Type 0 where
  pub short : shift < 64
  pub room : word ≤ length list * 2 ^ shift

-- a sixteenth of it has room for a sixteenth of them
pub record Sixteenth (shift : ℕ) (list : List ℕ) : Type 0 where
  pub short : shift + 4 < 64
  pub room : word ≤ length list / 16 * 2 ^ (shift + 4)

-- so many places are room for all, and a sixteenth of them for a sixteenth
pub record RoomFor (shift places : ℕ) : Type 0 where
  pub limited : places ≤ 4 * most
  pub short : shift + 4 < 64
  pub all : word ≤ places * 2 ^ shift
  pub few : word ≤ places / 16 * 2 ^ (shift + 4)

-- each place is empty or has one of n records: the entry is 0, or one more than the record's index
abbrev pub Held : ℕ → List ℕ → Type 0
Held n places = (a : ℕ) → slice_index places a ≤ n

-- a record at a place has key x
pub record Holds (key : ℕ → ℕ) (places : List ℕ) (x : ℕ) : Type 0 where
  pub place : ℕ
  pub holder : ℕ
  pub there : slice_index_or places place 0 ≡ suc holder
  pub same : key holder ≡ x

-- the record at a place has another key than x
pub record Another (key : ℕ → ℕ) (places : List ℕ) (a x : ℕ) : Type 0 where
  pub full : slice_index_or places a 0 ≡ 0 → ⊥
  pub differ : (h : ℕ) → slice_index places a ≡ suc h → key h ≢ x

-- record i comes to an empty place
pub record Comes (i : ℕ) (before : List ℕ) (a : ℕ) (after : List ℕ) : Type 0 where
  pub empty : slice_index_or before a 0 ≡ 0
  pub is : after ≡ slice_set before a (i + 1)

-- what comes of the try of record i, whose key is x, at a place
abbrev pub TriedAt : (ℕ → ℕ) → List ℕ → ℕ → ℕ → ℕ → List ℕ → Placed → Type 0
TriedAt key before a i x after Stays = Comes i before a after
TriedAt key before a i x after Repeats = (after ≡ before) × Holds key after x
TriedAt key before a i x after Differs = (after ≡ before) × Another key after a x

-- what comes of a look at a second place, where the first has another key
pub record TriedSecond (key : ℕ → ℕ) (places : List ℕ) (b x : ℕ) (r : Bool) : Type 0 where
  pub same : r ≡ true → Holds key places x
  pub differ : r ≡ false → (slice_index places b ≢ 0) → Another key places b x

-- what a place has, or where it is empty what comes there
abbrev pub kept : ℕ → ℕ → ℕ
kept held i = cond (held == 0) i held

-- and how many are left then
abbrev pub more : ℕ → ℕ → ℕ
more left held = cond (held == 0) left (left + 1)

-- record i is put at a place that is empty, or else at the end of those that are left
pub record Puts (places : List ℕ) (b i : ℕ) (list : List ℕ) (left : ℕ) (places' list' : List ℕ) (left' : ℕ) : Type 0 where
  pub place : places' ≡ slice_set places b (kept (slice_index places b) (i + 1))
  pub entry : list' ≡ slice_set list left i
  pub count : left' ≡ more left (slice_index places b)

-- another key is at the first place: it is put at the second, where another key is too unless it is empty
pub record Second (key : ℕ → ℕ) (a b : ℕ) (places list : List ℕ) (left i : ℕ) (places' list' : List ℕ) (left' : ℕ) : Type 0 where
  pub first : Another key places a (key i)
  pub second : (slice_index places b ≢ 0) → Another key places b (key i)
  pub puts : Puts places b i list left places' list' left'

-- it stays at the first place
pub record First (a : ℕ) (places list : List ℕ) (left i : ℕ) (places' list' : List ℕ) (left' : ℕ) : Type 0 where
  pub comes : Comes i places a places'
  pub entry : list' ≡ list
  pub count : left' ≡ left

-- what comes of record i, of which a key's places are these
abbrev pub TriedBoth : (ℕ → ℕ) → (ℕ → ℕ) → (ℕ → ℕ) → List ℕ → List ℕ → ℕ → ℕ → List ℕ → List ℕ → Step → Type 0
TriedBoth key f g places list left i places' list' Repeated = (places' ≡ places) × (list' ≡ list) × Holds key places (key i)
TriedBoth key f g places list left i places' list' GivenUp = Unit {0}
TriedBoth key f g places list left i places' list' (Left left') =
    First (f (key i)) places list left i places' list' left' ⊎ Second key (f (key i)) (g (key i)) places list left i places' list' left'

-- of m listed records some are left in the list; the first of these that repeats an earlier one, or what was found, whichever is lower, is
-- the first of all
pub record Sifts (key : ℕ → ℕ) (n m : ℕ) (before : ℕ → ℕ) (after : List ℕ) (found left : ℕ) : Type 0 where
  pub fewer : left ≤ m
  pub listed : Rising n left (at after)
  pub answers : (o : ℕ) → FirstOf key (at after) n left o → FirstOf key before n m (least o found)

-- the records that are listed, or where none is listed yet all by their indices
abbrev pub listed : Bool → List ℕ → ℕ → ℕ
listed true list = at list
listed false list = λ u. u

-- what is sifted, unless it was given up
abbrev pub SiftsTo : (ℕ → ℕ) → ℕ → ℕ → (ℕ → ℕ) → List ℕ → Option Sifted → Type 0
SiftsTo key n m before after (Some s) = Sifts key n m before after s.found s.left
SiftsTo key n m before after None = Unit {0}

-- those that are listed next: the same where the list has all that are left
pub record Next (n : ℕ) (list : List ℕ) (before : Option Sifted) (list' : List ℕ) (after : Sifted) : Type 0 where
  pub sifts : (key : ℕ → ℕ) → SiftsTo key n n (λ u. u) list before → Sifts key n n (λ u. u) list' after.found after.left

-- a search that answers answers this
abbrev pub Tries : (ℕ → Type 0) → Option ℕ → Type 0
Tries P (Some i) = P i
Tries P None = Unit {0}
