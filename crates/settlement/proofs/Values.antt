-- In an accepted file each mark has a value at its previous and at its final price, and an amount is lots times their difference.
use mathlib.Core.Path.{◌≡◌, ap}
use mathlib.Core.Bool.{true, false}
use Prim.Native.Nat.{ℕ, ◌%◌, ◌≤◌, ◌<◌}
use lib.IntN.{pos, ◌-ℤ◌, ◌*ℤ◌}
use lib.ListN.{length}
use borrow.Author.Tests.{ltb-false, eqb-true, not-false}
use Rattle.products.specs.Products.{price_limit}
use Rattle.pricing.specs.Calls.{given, value_of}
use Rattle.dayfile.specs.Records.{Lists, mark_at, correction_at, position_at}
use Rattle.checks.specs.Table.{above_limit, listed, tick_of}
use Rattle.numbers.specs.Checks.{decision_of}
use Rattle.checks.specs.Marks.{off_tick, MarkCode, MarkLimit, MarkTick}
use Rattle.checks.specs.Corrections.{CorrectionPrice}
use Rattle.checks.specs.Judging.{record_checks}
use Rattle.settlement.specs.Prices.{final_of, change_of, FinalPrice, corrected, uncorrected}
use Rattle.settlement.specs.Settling.{amount_of, change_in}
use Rattle.dayfile.specs.declared.records.Mark.{Mark}
use Rattle.numbers.proofs.Searches.{or_none}
use Rattle.checks.proofs.Passed.{mark_passes, correction_passes, mark_in_lem}
use Rattle.settlement.proofs.FinalPrices.{final_price-is}
use Rattle.settlement.proofs.Pricing.{valued, value_or_zero-is}
use Rattle.numbers.specs.Order.{Unmet}

-- a price that passes 6 and 7 for a mark
record Allowed (m : Mark) (p : ℕ) : Type 0 where
  low : p ≤ price_limit
  on_tick : p % tick_of m.code ≡ 0

allowed : (m : Mark) (p : ℕ) → above_limit p ≡ false → off_tick m p ≡ false → Allowed m p
allowed m p a b = record { low = ltb-false price_limit p a; on_tick = eqb-true _ 0 (not-false _ b) }

allowed_as : (m : Mark) {p q : ℕ} → p ≡ q → Allowed m p → Allowed m q
allowed_as m e a = rw e at a

module _ (ls : Lists) (passed : decision_of (record_checks ls) ≡ Unmet) where
  module _ (m : ℕ) (h : m < length ls.marks) where
    code-listed : listed (mark_at ls.marks m).code ≡ true
    code-listed = not-false _ (mark_passes ls passed m MarkCode h)

    low_both : (above_limit (mark_at ls.marks m).previous ≡ false) × (above_limit (mark_at ls.marks m).today ≡ false)
    low_both = or_none _ _ (mark_passes ls passed m MarkLimit h)

    on_both : (off_tick (mark_at ls.marks m) (mark_at ls.marks m).previous ≡ false) × (off_tick (mark_at ls.marks m) (mark_at ls.marks m).today ≡ false)
    on_both = or_none _ _ (mark_passes ls passed m MarkTick h)

    previous_allowed : Allowed (mark_at ls.marks m) (mark_at ls.marks m).previous
    previous_allowed = allowed _ _ low_both.0 on_both.0

    today_allowed : Allowed (mark_at ls.marks m) (mark_at ls.marks m).today
    today_allowed = allowed _ _ low_both.1 on_both.1

    final_allowed : Allowed (mark_at ls.marks m) (final_of ls.marks ls.corrections m)
    final_allowed = by_price (final_price-is ls.marks ls.corrections m)
      where
        by_price : {p : ℕ} → FinalPrice ls.marks ls.corrections m p → Allowed (mark_at ls.marks m) p
        by_price (uncorrected none e) = allowed_as (mark_at ls.marks m) e today_allowed
        by_price (corrected k hk named e max) =
            let c = correction_at ls.corrections k in
            let n = mark_at ls.marks c.mark in
            let q = or_none (above_limit c.price) (off_tick n c.price) (correction_passes ls passed k CorrectionPrice hk) in
            rw named at (allowed_as n e (allowed n c.price q.0 q.1))

    -- the value at a price that is allowed
    has_value : (p : ℕ) → Allowed (mark_at ls.marks m) p → (n : ℕ) × (value_of (mark_at ls.marks m).code p ≡ given n)
    has_value p a = valued (mark_at ls.marks m).code p code-listed a.low a.on_tick

    previous_value : (n : ℕ) × (value_of (mark_at ls.marks m).code (mark_at ls.marks m).previous ≡ given n)
    previous_value = has_value _ previous_allowed

    final_value : (n : ℕ) × (value_of (mark_at ls.marks m).code (final_of ls.marks ls.corrections m) ≡ given n)
    final_value = has_value _ final_allowed

    change_is : {v w : ℕ} → value_of (mark_at ls.marks m).code (mark_at ls.marks m).previous ≡ given v
        → value_of (mark_at ls.marks m).code (final_of ls.marks ls.corrections m) ≡ given w → change_in ls m ≡ pos w -ℤ pos v
    unfolding change_of
    change_is x y = rw (value_or_zero-is _ _ x, value_or_zero-is _ _ y)

  -- lots times (value at the final price − value at the previous price)
  pub amount_valued : (i : ℕ) → i < length ls.positions
      → let p = position_at ls.positions i in
      let m = mark_at ls.marks p.mark in
      (v : ℕ) × (w : ℕ) × (value_of m.code m.previous ≡ given v) × (value_of m.code (final_of ls.marks ls.corrections p.mark) ≡ given w)
      × (amount_of ls.positions (change_in ls) i ≡ p.lots *ℤ (pos w -ℤ pos v))
  unfolding amount_of
  amount_valued i h =
      let p = position_at ls.positions i in
      let k = mark_in_lem ls passed i h in
      let (v, x) = previous_value p.mark k in
      let (w, y) = final_value p.mark k in
      (v, w, x, y, ap (λ z. p.lots *ℤ z) (change_is p.mark k x y))
