-- A currency's total, by its marks and their net lots, is the sum of its positions' amounts; and what the array of changes gives.
use mathlib.Core.Path.{◌≡◌, refl, sym, ap, ◌∙◌}
use mathlib.Core.List.{List, ◌++◌}
use Prim.Native.Nat.{ℕ, ◌<◌}
use lib.ListN.{length, drop}
use lib.IntN.{ℤ, ◌*ℤ◌, *ℤ-zero}
use Rattle.products.specs.declared.table.Currency.{Currency}
use Rattle.products.specs.declared.table.Currency.TheVariants.{Aud, Nzd}
use Rattle.products.specs.Products.{currency_of}
use Rattle.numbers.specs.Folds.{front}
use Rattle.dayfile.specs.Records.{Lists, mark_at, position_at}
use Rattle.settlement.specs.Prices.{final_of}
use Rattle.settlement.specs.Settling.{keep_of, amount_of, net_of, share_of, sum_of_amounts, total_of, change_in, paid}
use Rattle.settlement.specs.SettlingSteps.{ListsPass, changes_of}
use Rattle.numbers.specs.Integers.{entry_of}
use Rattle.dayfile.specs.declared.records.Mark.{Mark}
use Rattle.dayfile.specs.declared.records.Position.{Position}
use Rattle.numbers.proofs.Tables.{table_same}
use Rattle.numbers.proofs.SignedSums.{sum_same, sum_below, exchange}
use Rattle.checks.proofs.Passed.{mark_in_lem}
use Rattle.settlement.proofs.Changes.{change_at}

pub keep_mul : (w z : Currency) (x y : ℤ) → keep_of w z (x *ℤ y) ≡ x *ℤ keep_of w z y
keep_mul Aud Aud x y = refl
keep_mul Aud Nzd x y = sym (*ℤ-zero x)
keep_mul Nzd Aud x y = sym (*ℤ-zero x)
keep_mul Nzd Nzd x y = refl

module _ (ms : List Mark) (ps : List Position) (change : ℕ → ℤ) (wanted : Currency) where
  weight : ℕ → ℤ
  weight m = keep_of wanted (currency_of (mark_at ms m).code) (change m)

  pub total-is : ((i : ℕ) → i < length ps → (position_at ps i).mark < length ms) → total_of ms ps change wanted ≡ sum_of_amounts ms ps change wanted
  unfolding total_of share_of amount_of weight
  total-is named =
      sum_same (λ m. keep_of wanted (currency_of (mark_at ms m).code) (net_of ps m *ℤ change m)) (λ m. net_of ps m *ℤ weight m) (length ms)
      (λ m. keep_mul wanted (currency_of (mark_at ms m).code) (net_of ps m) (change m))
      ∙ sym (exchange (λ i. (position_at ps i).lots) (λ i. (position_at ps i).mark) weight (length ms) (length ps) named)
      ∙ sym (sum_same (share_of ms ps change wanted) (λ i. (position_at ps i).lots *ℤ weight (position_at ps i).mark) (length ps)
      (λ i. keep_mul wanted (currency_of (mark_at ms (position_at ps i).mark).code) (position_at ps i).lots (change (position_at ps i).mark)))

-- ---- from the array to the definitions

module _ (ls : Lists) (acc : ListsPass ls) where
  changes : List ℤ
  changes = changes_of ls.marks (final_of ls.marks ls.corrections)

  amount-same : (i : ℕ) → i < length ls.positions → amount_of ls.positions (entry_of changes) i ≡ amount_of ls.positions (change_in ls) i
  unfolding amount_of changes
  amount-same i h = ap (λ x. (position_at ls.positions i).lots *ℤ x) (change_at ls.marks _ (position_at ls.positions i).mark (mark_in_lem ls acc.passed i h))

  pub paid-is : (a : List ℤ) → front (amount_of ls.positions (entry_of (changes_of ls.marks (final_of ls.marks ls.corrections)))) a (length ls.positions) ≡ paid ls a
  unfolding changes
  paid-is a = ap (λ t. t ++ drop (length ls.positions) a) (table_same _ _ (length ls.positions) amount-same)

  pub sum_is : (wanted : Currency) → sum_of_amounts ls.marks ls.positions (entry_of (changes_of ls.marks (final_of ls.marks ls.corrections))) wanted
      ≡ total_of ls.marks ls.positions (change_in ls) wanted
  unfolding changes share_of
  sum_is wanted =
      sum_below _ (share_of ls.marks ls.positions (change_in ls) wanted) (length ls.positions)
      (λ i h. ap (keep_of wanted (currency_of (mark_at ls.marks (position_at ls.positions i).mark).code)) (amount-same i h))
      ∙ sym (total-is ls.marks ls.positions (change_in ls) wanted (λ i h. mark_in_lem ls acc.passed i h))
