-- The marks of one product that are valued side by side.
use Rattle.std.specs.Prelude.{◌≡◌, Bool, true, false, cond, List, ℕ, zero, suc, ◌+◌, ◌-◌, ◌≤◌, ◌<◌, ltb, ℤ, pos, ◌-ℤ◌, length, get_or, set}
use Rattle.dayfile.specs.Limits.{file_limits}
use Rattle.dayfile.specs.Records.{mark_at}
use Rattle.dayfile.specs.declared.records.Mark.{Mark}
use Rattle.products.specs.Products.{same_code}
use Rattle.pricing.specs.Sizes.{value_cap}
use Rattle.pricing.specs.Calls.{lanes}

abbrev pub group_size : ℕ
group_size = 4

unfoldable pub alike_in : List Mark → ℕ → ℕ → Bool
alike_in ms i j = same_code (mark_at ms i).code (mark_at ms j).code

-- the mark i, and others of its product
pub record Grouped (ms : List Mark) (n i : ℕ) (g : List ℕ) : Type 0 where
  pub size : length g ≡ group_size
  pub here : get_or g 0 0 ≡ i
  pub inside : (k : ℕ) → k < group_size → get_or g k 0 < n
  pub alike : (k : ℕ) → k < group_size → (mark_at ms (get_or g k 0)).code ≡ (mark_at ms i).code

pub record InFile (g : List ℕ) : Type 0 where
  pub place : (k : ℕ) → k < group_size → get_or g k 0 < file_limits.marks

pub record Capped (v : List ℕ) : Type 0 where
  pub lane : (k : ℕ) → k < lanes → get_or v k 0 ≤ value_cap

-- a list of final prices, by the mark
abbrev pub last_of : List ℕ → ℕ → ℕ
last_of finals m = get_or finals m 0

abbrev pub lane_price : List Mark → List ℕ → List ℕ → ℕ → ℕ
lane_price ms finals g k = cond (ltb k group_size) (last_of finals (get_or g k 0)) (mark_at ms (get_or g (k - group_size) 0)).previous

-- the change of the group's k-th mark
abbrev pub lanes_change : List ℕ → ℕ → ℤ
lanes_change v k = pos (get_or v k 0) -ℤ pos (get_or v (k + group_size) 0)

-- a list with n values stored at the places of g, one after the other
unfoldable pub set_all : {A : Type 0} → ℕ → List ℕ → (ℕ → A) → List A → List A
set_all zero g f a = a
set_all (suc n) g f a = set (set_all n g f a) (get_or g n 0) (f n)

-- an entry is what it is to be
abbrev pub Right : List ℤ → List ℤ → ℕ → Type 0
Right target a j = get_or a j (pos 0) ≡ get_or target j (pos 0)

-- entries marked as done are right
pub record Worked (target a : List ℤ) (done : List Bool) : Type 0 where
  pub size : length a ≡ file_limits.marks
  pub flags : length done ≡ file_limits.marks
  pub flagged : (j : ℕ) → get_or done j false ≡ true → Right target a j

-- a step that makes the entry i right, and leaves right what was right
pub record Works (target : List ℤ) (i : ℕ) (a : List ℤ) (done : List Bool) (a' : List ℤ) (done' : List Bool) : Type 0 where
  pub worked : Worked target a done → Worked target a' done'
  pub keeps : Worked target a done → (j : ℕ) → Right target a j → Right target a' j
  pub here : Worked target a done → Right target a' i
