-- Laws of the product table: what a search finds, and what holds of every line.
use Rattle.std.proofs.Common.{Option, Some, None}
use mathlib.Core.Path.{◌≡◌, refl, sym, subst, ap₂, ◌∙◌}
use mathlib.Core.List.Memᴰ
use mathlib.Core.List.{List, [], ◌∷◌, Memᴰ}
use mathlib.Core.Bool.{Bool, true, false, cond}
use Prim.Native.Nat.{ℕ, ◌+◌, ◌<◌}
use native.Mathlib.Numerals.{add-one}
use borrow.Author.Tests.{eqb-true, eq-eqb}
use lib.Dec.{eqb}
use lib.ListN.{length, get_or, drop}
use lib.Seq.{drop-cons}
use Rattle.numbers.proofs.Truth.{Tells, and_left, and_right, not_both, tells_as}
use Rattle.products.specs.Products.{products, no_product, same_code, find_in, find, Unlisted}
use Rattle.products.specs.declared.table.Code.{Code}
use Rattle.products.specs.declared.table.Product.{Product}

-- a search from line i on finds that line where it has the code, and else what a search from the next line on finds
module _ (lines : List Product) (i : ℕ) (a : Code) {product : Product} {b : Bool} {f : Option Product}
    (h : i < length lines) (is : product ≡ get_or lines i no_product) (test : b ≡ same_code a product.code) (from : find_in (drop i lines) a ≡ f) where
  pub find-here : b ≡ true → Some product ≡ f
  unfolding find_in
  find-here e = rw is (sym (rw (drop-cons lines i no_product, ← is, ← test, e)) ∙ from)

  pub find_next : b ≡ false → find_in (drop (i + 1) lines) a ≡ f
  unfolding find_in
  find_next e = sym (rw (add-one, drop-cons lines i no_product, ← is, ← test, e)) ∙ from

-- what holds of every line of a table holds of the line that a code names
abbrev pub Every : (Product → Type 0) → List Product → Type 0
Every P [] = Unit {0}
Every P (product ∷ rest) = P product × Every P rest

module _ (P : Product → Type 0) {product : Product} where
  first : (b : Bool) {r : Product} {f : Option Product} → P r → (f ≡ Some product → P product) → cond b (Some r) f ≡ Some product → P product
  first true {r} h g e = let d : r ≡ product = cc in subst P d h
  first false h g e = g e

  pub of_found : (lines : List Product) (a : Code) → Every P lines → find_in lines a ≡ Some product → P product
  unfolding find_in
  of_found [] a h e = cc
  of_found (r ∷ lines) a h e = first (same_code a r.code) h.0 (of_found lines a h.1) e

-- what is found bears the code
same_code_lem : (a b : Code) → same_code a b ≡ true → a ≡ b
unfolding same_code
same_code_lem a b e =
    let f = and_left (eqb a.0 b.0) (eqb a.1 b.1) e in
    let g = and_right (eqb a.0 b.0) (eqb a.1 b.1) e in
    ap₂ (λ (x y : ℕ). record { 0 = x; 1 = y }) (eqb-true _ _ f) (eqb-true _ _ g)

pub same_code_self : (a : Code) → same_code a a ≡ true
unfolding same_code
same_code_self a = rw (eq-eqb a.0 a.0 refl, eq-eqb a.1 a.1 refl)

module _ {product : Product} where
  found_by : (b : Bool) (a : Code) (r : Product) {f : Option Product} → (b ≡ true → a ≡ r.code) → (f ≡ Some product → product.code ≡ a) → cond b (Some r) f ≡ Some product → product.code ≡ a
  found_by true a r h g e = let d : r ≡ product = cc in rw (← d) (sym (h refl))
  found_by false a r h g e = g e

  found-code_in : (lines : List Product) (a : Code) → find_in lines a ≡ Some product → product.code ≡ a
  unfolding find_in
  found-code_in [] a e = cc
  found-code_in (r ∷ lines) a e = found_by (same_code a r.code) a r (same_code_lem a r.code) (found-code_in lines a) e

pub found-code : (a : Code) {product : Product} → find a ≡ Some product → product.code ≡ a
unfolding find
found-code a e = found-code_in products a e

-- a line that is found is one of the table's
pub found_member : (a : Code) {product : Product} → find a ≡ Some product → Memᴰ product products
unfolding find find_in
found_member a e = in_table products a e
  where
    here : (b : Bool) {product r : Product} {lines : List Product} {f : Option Product} → (f ≡ Some product → Memᴰ product lines)
        → cond b (Some r) f ≡ Some product → Memᴰ product (r ∷ lines)
    here true {product} {r} g e = let d : product ≡ r = cc in Memᴰ.head d
    here false g e = Memᴰ.tail (g e)

    in_table : (lines : List Product) (a : Code) {product : Product} → find_in lines a ≡ Some product → Memᴰ product lines
    in_table [] a e = cc
    in_table (r ∷ lines) a e = here (same_code a r.code) (in_table lines a) e

-- and where none is found no line has the code
pub missing-none : (a : Code) → find a ≡ None → (product : Product) → Memᴰ product products → ¬ (product.code ≡ a)
unfolding find find_in
missing-none a e = in_table products e
  where
    later : (b : Bool) (r : Product) (f : Option Product) → cond b (Some r) f ≡ None → (b ≡ false) × (f ≡ None)
    later true r f e = cc
    later false r f e = (refl, e)

    in_table : (lines : List Product) → find_in lines a ≡ None → (product : Product) → Memᴰ product lines → ¬ (product.code ≡ a)
    in_table [] e product m c = absurd (Memᴰ.not-nil m)
    in_table (r ∷ lines) e product (Memᴰ.head d) c =
        let same : same_code a r.code ≡ true = rw (← d, c) (same_code_self a) in
        let other = (later (same_code a r.code) r (find_in lines a) e).0 in
        cc
    in_table (r ∷ lines) e product (Memᴰ.tail m) c = in_table lines (later (same_code a r.code) r (find_in lines a) e).1 product m c

-- ---- what a test of what was found tells of the code

module _ (code : Code) (test : Option Product → Bool) where
  -- one that holds only where no line was found
  pub tells_unlisted : ((product : Product) → test (Some product) ≡ false) → test None ≡ true → Tells (test (find code)) (Unlisted code)
  tells_unlisted here none = by_found (find code) refl
    where
      by_found : (f : Option Product) → find code ≡ f → Tells (test f) (Unlisted code)
      by_found (Some product) e = record { yes = λ b. not_both b (here product); no = λ b h. h product (found_member code e) (found-code code e) }
      by_found None e = record { yes = λ b. missing-none code e; no = λ b. not_both none b }

  -- one of the product that was found, which holds of none
  pub tells_product : {A : Product → Type 0} → ((product : Product) → Tells (test (Some product)) (A product)) → test None ≡ false
      → Tells (test (find code)) ((product : Product) × (find code ≡ Some product) × A product)
  tells_product {A} here none = by_found (find code) refl
    where
      by_found : (f : Option Product) → find code ≡ f → Tells (test f) ((product : Product) × (find code ≡ Some product) × A product)
      by_found (Some product) e = tells_as (λ a. (product, e, a)) (λ x. let (r, g, a) = x in let same : r ≡ product = cc in subst A same a) (here product)
      by_found None e = record { yes = λ b. not_both b none; no = λ b x. let g = x.1 in cc }
