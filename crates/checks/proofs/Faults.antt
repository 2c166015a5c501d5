-- What the code looks at in one record is what its tests say.
use Rattle.std.proofs.Common.{◌≡◌, ℕ, ◌%◌, ◌≤◌, Bool, true, false, not, ◌||◌, eqb, ltb, List, [], length, refl, arith, le-leb, ltb-false, ltb-true, Option, Some, None}
use mathlib.Core.Bool.{or-false}
use native.Mathlib.Nat.{mod-one}
use lib.ListN.{get_or-eq_default}
use borrow.Author.Tests.{lt-leb}
use Rattle.products.specs.Products.{find, find_in, products, same_code}
use Rattle.dayfile.specs.Limits.{year_limit}
use Rattle.dayfile.specs.Records.{mark_of, mark_at}
use Rattle.dayfile.specs.declared.records.Mark.{Mark}
use Rattle.dayfile.specs.declared.records.Correction.{Correction}
use Rattle.checks.specs.Table.{above_limit, listed, listed_in, code_has_month, has_month_in, tick_of, tick_in}
use Rattle.checks.specs.Marks.{high_mark}
use Rattle.checks.specs.Faults.{mark_faults, faults_by, correction_faults, tick_at, tick_from}
use Rattle.checks.specs.declared.marks.MarkFaults.{MarkFaults}
use Rattle.checks.specs.declared.corrections.CorrectionFaults.{CorrectionFaults}
use Rattle.products.specs.declared.table.Product.{Product}

-- ---- a mark, by what the lookup of its code found

abbrev pub faults_in : Mark → Option Product → MarkFaults
faults_in m (Some product) = faults_by product m
faults_in m None = record { code = true; date = true; high = high_mark m; off = false; tick = 1 }

pub faults_found : (m : Mark) → faults_in m (find m.code) ≡ mark_faults m
unfolding listed code_has_month tick_of
faults_found m = go (find m.code)
  where
    go : (o : Option Product) → faults_in m o
        ≡ record {
          code = not (listed_in o);
          date = not (has_month_in o m.month) || ltb year_limit m.year;
          high = high_mark m;
          off = not (eqb (m.previous % tick_in o) 0) || not (eqb (m.today % tick_in o) 0);
          tick = tick_in o;
        }
    go (Some product) = refl
    go None = rw (mod-one m.previous, mod-one m.today)

-- ---- a correction, by the ticks of the marks

no_mark_lem : (ms : List Mark) (m : ℕ) → length ms ≤ m → mark_at ms m ≡ mark_of []
unfolding mark_at
no_mark_lem ms m h = get_or-eq_default ms (mark_of []) {n = m} h

no_tick : tick_of (mark_of []).code ≡ 1
unfolding tick_of find find_in products same_code
no_tick = refl

module _ (ms : List Mark) (c : Correction) where
  -- there is no mark with its index: a price has no tick to be off
  pub without_mark : None ≡ tick_from ms c.mark → {a : Bool} → a ≡ above_limit c.price → ◌≡◌ {A = CorrectionFaults} (record { missing = true; price = a }) (correction_faults ms c)
  without_mark p {a} e = go (ltb c.mark (length ms)) refl
    where
      go : (b : Bool) → ltb c.mark (length ms) ≡ b → ◌≡◌ {A = CorrectionFaults} (record { missing = true; price = a }) (correction_faults ms c)
      go true q = absurd (let w : ◌≡◌ {A = Option ℕ} None (Some (tick_at ms c.mark)) = rw q at p in let z : ◌≡◌ {A = ℕ} 0 1 = cc in omega arith)
      go false q =
          let h : length ms ≤ c.mark = ltb-false c.mark (length ms) q in
          rw (le-leb _ _ h, no_mark_lem ms c.mark h, no_tick, mod-one c.price, ← e, or-false a)

  pub with_mark : {t : ℕ} → Some t ≡ tick_from ms c.mark → {a o : Bool} → a ≡ above_limit c.price → o ≡ not (eqb (c.price % t) 0)
      → ◌≡◌ {A = CorrectionFaults} (record { missing = false; price = a || o }) (correction_faults ms c)
  with_mark {t} p {a} {o} e f = go (ltb c.mark (length ms)) refl
    where
      go : (b : Bool) → ltb c.mark (length ms) ≡ b → ◌≡◌ {A = CorrectionFaults} (record { missing = false; price = a || o }) (correction_faults ms c)
      go true q =
          let w : ◌≡◌ {A = Option ℕ} (Some t) (Some (tick_at ms c.mark)) = rw q at p in
          let s : t ≡ tick_at ms c.mark = cc in
          rw (lt-leb _ _ (ltb-true c.mark (length ms) q), e, f, s)
      go false q = absurd (let w : ◌≡◌ {A = Option ℕ} (Some t) None = rw q at p in let z : ◌≡◌ {A = ℕ} 0 1 = cc in omega arith)
