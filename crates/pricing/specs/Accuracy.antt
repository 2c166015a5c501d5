-- The distances that document 01 names: of a bond's bracket, and of the amount for each lot.
use Rattle.std.specs.Prelude.{ℕ, ◌+◌, ◌*◌, ◌-◌, List, [], ◌∷◌, ◌++◌, cond}
use Rattle.products.specs.Products.{IR, BB, IB, YT, XT, XX, same_code}
use Rattle.products.specs.declared.table.Code.{Code}
use Rattle.products.specs.declared.table.Product.{Product}
use Rattle.products.specs.declared.table.Terms.{Terms}
use Rattle.products.specs.declared.table.Terms.TheVariants.{Bill, Bond, CashRate}

-- How far the ladder's bracket may lie from the exact one: (c n² + 200 n − 100) / 2 units of the ladder. This is twice that, and whole.
abbrev pub twice_distance : ℕ → ℕ → ℕ
twice_distance c n = c * (n * n) + 200 * n - 100

-- a number for each of some codes
pub record Entry : Type 0 where
  pub code : Code
  pub number : ℕ

abbrev pub entry : Code → ℕ → Entry
entry a n = record { code = a; number = n }

-- the number of the first entry with a code, 0 where there is none
unfoldable pub number_in : List Entry → Code → ℕ
number_in [] a = 0
number_in (e ∷ es) a = cond (same_code a e.code) e.number (number_in es a)

-- twice the distance of each bond of a table
abbrev pub distance_by : Code → Terms → List Entry
distance_by code (Bill face days) = []
distance_by code (Bond face c n) = entry code (twice_distance c n) ∷ []
distance_by code (CashRate cents) = []

unfoldable pub distances_in : List Product → List Entry
distances_in [] = []
distances_in (product ∷ rest) = distance_by product.code product.terms ++ distances_in rest

-- the accuracy figures, in thousandths of a cent for each lot
unfoldable pub accuracy_figures : List Entry
accuracy_figures =
    entry IB 0 ∷ entry IR 1_000 ∷ entry BB 1_000 ∷ entry YT 2_208 ∷ entry XT 6_100 ∷ entry XX 6_550 ∷ []

-- the accuracy figure of a product for two prices, the previous and the final one. It goes by the product alone.
unfoldable pub accuracy_of : Code → ℕ → ℕ → ℕ
accuracy_of code previous final = number_in accuracy_figures code
