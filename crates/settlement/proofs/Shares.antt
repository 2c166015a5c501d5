-- The sums of each currency's amounts, by an array that says each mark's currency.
use mathlib.Core.Path.{◌≡◌, refl, ap, ◌∙◌}
use mathlib.Core.List.{List}
use Prim.Native.Nat.{ℕ, ◌+◌, ◌≤◌, ◌<◌}
use native.Mathlib.Nat.{le_trans}
use native.Mathlib.Numerals.{add-one}
use native.Mathlib.Omega.{arith}
use lib.IntN.{ℤ, nat_abs, ◌+ℤ◌}
use lib.ListN.{length, get_or}
use Rattle.numbers.specs.Folds.{sum, Filled}
use Rattle.numbers.specs.Integers.{entry_of}
use Rattle.products.specs.declared.table.Currency.{Currency}
use Rattle.products.specs.declared.table.Currency.TheVariants.{Aud, Nzd}
use Rattle.dayfile.specs.Records.{position_at}
use Rattle.dayfile.specs.declared.records.Mark.{Mark}
use Rattle.dayfile.specs.declared.records.Position.{Position}
use Rattle.settlement.specs.Settling.{keep_of, amount_of, share_of, sum_of_amounts}
use Rattle.settlement.specs.SettlingSteps.{amount_cap, total_cap, Payable, Named, Bounded, currency_at, Addable, Adds, share_by, PaysBy, Pays}
use Rattle.settlement.specs.declared.amounts.Sums.{Sums}
use Rattle.numbers.proofs.Chain.{by_two}
use Rattle.numbers.proofs.SignedSums.{sum_below}
use Rattle.settlement.proofs.Sizes.{keep_small, amount-small, sum-small}

module _ (ps : List Position) (a : List ℤ) (currencies : List Currency) where
  -- a loop over the positions at i: the sums of those before it
  pub record Summed (i : ℕ) (s : Sums) : Type 0 where
    pub aud : s.aud.0 ≡ sum (share_by ps a currencies Aud) i
    pub nzd : s.nzd.0 ≡ sum (share_by ps a currencies Nzd) i

  pub summed_more : {i : ℕ} {s r : Sums} {c : Currency} {x : ℤ} → c ≡ get_or currencies (position_at ps i).mark Aud → x ≡ amount_of ps (entry_of a) i → Adds c x s r → Summed i s → Summed (i + 1) r
  unfolding share_by
  summed_more {i} p q e h =
      record {
        aud = rw add-one (e.aud ∙ by_two ◌+ℤ◌ refl h.aud (by_two (keep_of Aud) refl p q));
        nzd = rw add-one (e.nzd ∙ by_two ◌+ℤ◌ refl h.nzd (by_two (keep_of Nzd) refl p q));
      }

  module _ (pay : Payable ps) (bound : Bounded a) {i : ℕ} (h : i ≤ length ps) where
    shares_in : (wanted : Currency) → nat_abs (sum (share_by ps a currencies wanted) i) ≤ total_cap
    unfolding share_by
    shares_in wanted =
        omega (arith, sum-small (share_by ps a currencies wanted) i (λ k l. le_trans (keep_small wanted _ (amount_of ps (entry_of a) k)) (amount-small ps a pay bound k (omega arith))), pay.few)

    pub summed_in : {s : Sums} {x : ℤ} → Summed i s → nat_abs x ≤ amount_cap → Addable s.aud.0 x × Addable s.nzd.0 x
    summed_in e small = (record { total = rw e.aud (shares_in Aud); amount = small }, record { total = rw e.nzd (shares_in Nzd); amount = small })

-- where the array is that of the file's marks
pub pays : (ms : List Mark) (ps : List Position) (a : List ℤ) {currencies : List Currency} → Named ms ps → Filled Aud (currency_at ms) (length ms) currencies
    → {r : Sums} {before after : List ℤ} → PaysBy ps a currencies r before after → Pays ms ps a r before after
unfolding share_by share_of
pays ms ps a {currencies} named filled p = record { written = p.written; aud = p.aud ∙ sums Aud; nzd = p.nzd ∙ sums Nzd }
  where
    share : (wanted : Currency) (i : ℕ) → i < length ps → share_by ps a currencies wanted i ≡ share_of ms ps (entry_of a) wanted i
    share wanted i h =
        ap (λ (z : Currency). keep_of wanted z (amount_of ps (entry_of a) i))
        (filled.entry (position_at ps i).mark (named.mark i h))

    sums : (wanted : Currency) → sum (share_by ps a currencies wanted) (length ps) ≡ sum_of_amounts ms ps (entry_of a) wanted
    sums wanted = sum_below (share_by ps a currencies wanted) (share_of ms ps (entry_of a) wanted) (length ps) (share wanted)
