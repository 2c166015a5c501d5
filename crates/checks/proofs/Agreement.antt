-- Each check's test is true exactly where its words say that something is wrong, and each stands in its section's order.
use Rattle.std.proofs.Common.{◌≡◌, ℕ, ◌%◌, ◌<◌, not, ◌&&◌, ◌||◌, eqb, ltb, ◌⊎◌, List, ◌∷◌, length, ℤ, pos, negsuc, neg_ℤ, ◌<ℤ◌, refl, ap, ap₂, arith, Some}
use mathlib.Core.List.{Memᴰ}
use Prim.Native.Nat.{◌∣◌}
use native.Mathlib.Nat.{mod-one}
use lib.Signed.{lt_z}
use Rattle.numbers.specs.Integers.{is_zero}
use Rattle.numbers.proofs.Truth.{Tells, not_both, tells_as, tells_or, tells_and, tells_not, tells_lt, tells_le, tells_eq, tells_less, tells_divides, tells_some, or_three, or_three_back}
use Rattle.numbers.specs.Checks.{only, ◌before◌}
use Rattle.numbers.proofs.Checks.{Agree, agree_only, agree_before}
use Rattle.products.specs.Products.{price_limit, find, months_of, Unlisted}
use Rattle.products.specs.declared.table.Code.{Code}
use Rattle.products.specs.declared.table.Product.{Product}
use Rattle.products.proofs.Finding.{tells_unlisted, tells_product}
use Rattle.products.proofs.Months.{month_exactly}
use Rattle.dayfile.specs.Limits.{Limits, year_limit, lots_limit}
use Rattle.dayfile.specs.Records.{Lists, mark_at, correction_at, position_at}
use Rattle.dayfile.specs.Layout.{lists_of_file}
use Rattle.dayfile.specs.Opening.{header_checks}
use Rattle.dayfile.specs.declared.records.Mark.{Mark}
use Rattle.dayfile.specs.declared.records.Correction.{Correction}
use Rattle.dayfile.specs.declared.records.Position.{Position}
use Rattle.dayfile.proofs.Refusals.{header_agrees}
use Rattle.checks.specs.Table.{above_limit, listed, listed_in, code_has_month, has_month_in, tick_of, tick_in}
use Rattle.checks.specs.Marks.{HasMonth, OffTick, off_tick, SameContract, same_contract, contract_pair}
use Rattle.checks.specs.Marks.{MarkCheck, MarkCode, MarkDate, MarkLimit, MarkTick, MarkRepeated, mark_checks, too_many_marks, mark_list_checks}
use Rattle.checks.specs.Corrections.{Clash, clashing, clash_pair, CorrectionCheck, CorrectionMark, CorrectionPrice, CorrectionClash, correction_checks, too_many_corrections, correction_list_checks}
use Rattle.checks.specs.Positions.{bad_lots, SameHolding, same_holding, holding_pair, PositionCheck, PositionMark, PositionLots, PositionRepeated}
use Rattle.checks.specs.Positions.{position_checks, too_many_positions, position_list_checks}
use Rattle.checks.specs.Judging.{record_checks, too_many_records, list_checks, file_checks}

-- ---- the product table

tells_missing : (a : Code) → Tells (not (listed a)) (Unlisted a)
unfolding listed
tells_missing a = tells_unlisted a (λ f. not (listed_in f)) (λ product. refl) refl

tells_off_tick : (a : Code) (p : ℕ) → Tells (not (eqb (p % tick_of a) 0)) ((product : Product) × (find a ≡ Some product) × ¬ (product.tick ∣ p))
unfolding tick_of
tells_off_tick a p =
    tells_product a (λ f. not (eqb (p % tick_in f) 0)) {A = λ product. ¬ (product.tick ∣ p)} (λ product. tells_not (eqb (p % product.tick) 0) (tells_divides product.tick p)) (rw (mod-one p))

tells_has_month : (a : Code) (m : ℕ) → Tells (code_has_month a m) (HasMonth a m)
unfolding code_has_month
tells_has_month a m =
    tells_product a (λ f. has_month_in f m) {A = λ product. Memᴰ m (months_of product)}
    (λ product. record { yes = (month_exactly product m).0; no = λ h x. not_both ((month_exactly product m).1 x) h }) refl

above : (p : ℕ) → Tells (above_limit p) (price_limit < p)
above p = tells_lt price_limit p

off_tick_lem : (m : Mark) (p : ℕ) → Tells (off_tick m p) (OffTick m p)
off_tick_lem m p = tells_off_tick m.code p

-- ---- two records

code_by : (a b : Code) → a.0 ≡ b.0 → a.1 ≡ b.1 → a ≡ b
code_by a b p q = ap₂ {C = Code} (λ (x y : ℕ). (x, y)) p q

same_contract_lem : (m n : Mark) → Tells (same_contract m n) (SameContract m n)
same_contract_lem m n =
    let a = eqb m.code.0 n.code.0 in
    let b = eqb m.code.1 n.code.1 in
    let c = eqb m.month n.month in
    let d = eqb m.year n.year in
    tells_as
    (λ x. (code_by m.code n.code x.0.0.0 x.0.0.1, x.0.1, x.1))
    (λ x. (((ap (λ k. k.0) x.0, ap (λ k. k.1) x.0), x.1), x.2))
    (tells_and (a && b && c) d (tells_and (a && b) c (tells_and a b (tells_eq _ _) (tells_eq _ _)) (tells_eq _ _)) (tells_eq _ _))

clash : (c d : Correction) → Tells (clashing c d) (Clash c d)
clash c d =
    tells_and (eqb c.number d.number) _ (tells_eq _ _)
    (tells_or (not (eqb c.mark d.mark)) (not (eqb c.price d.price)) (tells_not _ (tells_eq _ _)) (tells_not _ (tells_eq _ _)))

same_holding_lem : (p o : Position) → Tells (same_holding p o) (SameHolding p o)
same_holding_lem p o = tells_and _ _ (tells_eq _ _) (tells_eq _ _)

-- ---- lots

none : (z : ℤ) → Tells (is_zero z) (z ≡ pos 0)
none (pos n) = tells_as (ap pos) (λ e. cc) (tells_eq n 0)
none (negsuc n) = record { yes = λ e. not_both e refl; no = λ e p. (let z : ◌≡◌ {A = ℕ} 0 1 = cc in omega arith) }

lots : (z : ℤ) → Tells (bad_lots z) ((z ≡ pos 0) ⊎ (z <ℤ neg_ℤ (pos lots_limit)) ⊎ (pos lots_limit <ℤ z))
lots z =
    tells_as or_three or_three_back
    (tells_or (is_zero z || lt_z z (neg_ℤ (pos lots_limit))) (lt_z (pos lots_limit) z)
    (tells_or (is_zero z) (lt_z z (neg_ℤ (pos lots_limit))) (none z) (tells_less z (neg_ℤ (pos lots_limit)))) (tells_less (pos lots_limit) z))

-- ---- the checks of each section

here : {A : Type 0} {x : A} {xs : List A} → Memᴰ x (x ∷ xs)
here = Memᴰ.head refl

next : {A : Type 0} {x y : A} {xs : List A} → Memᴰ x xs → Memᴰ x (y ∷ xs)
next m = Memᴰ.tail m

pub marks_agree : (ms : List Mark) → Agree (mark_checks ms)
marks_agree ms MarkCode i = tells_missing (mark_at ms i).code
marks_agree ms MarkDate i =
    let m = mark_at ms i in
    tells_or (not (code_has_month m.code m.month)) (ltb year_limit m.year) (tells_not _ (tells_has_month m.code m.month)) (tells_lt year_limit m.year)
marks_agree ms MarkLimit i = let m = mark_at ms i in tells_or (above_limit m.previous) (above_limit m.today) (above m.previous) (above m.today)
marks_agree ms MarkTick i = let m = mark_at ms i in tells_or (off_tick m m.previous) (off_tick m m.today) (off_tick_lem m m.previous) (off_tick_lem m m.today)
marks_agree ms MarkRepeated i = tells_some (contract_pair ms i) i (λ j. same_contract_lem (mark_at ms i) (mark_at ms j))

pub of_marks : (ms : List Mark) (c : MarkCheck) → Memᴰ c (mark_checks ms).order
of_marks ms MarkCode = here
of_marks ms MarkDate = next here
of_marks ms MarkLimit = next (next here)
of_marks ms MarkTick = next (next (next here))
of_marks ms MarkRepeated = next (next (next (next here)))

pub corrections_agree : (ms : List Mark) (cs : List Correction) → Agree (correction_checks ms cs)
corrections_agree ms cs CorrectionMark i = tells_le (length ms) (correction_at cs i).mark
corrections_agree ms cs CorrectionPrice i =
    let c = correction_at cs i in
    let m = mark_at ms c.mark in
    tells_or (above_limit c.price) (off_tick m c.price) (above c.price) (off_tick_lem m c.price)
corrections_agree ms cs CorrectionClash i = tells_some (clash_pair cs i) i (λ j. clash (correction_at cs i) (correction_at cs j))

pub of_corrections : (ms : List Mark) (cs : List Correction) (c : CorrectionCheck) → Memᴰ c (correction_checks ms cs).order
of_corrections ms cs CorrectionMark = here
of_corrections ms cs CorrectionPrice = next here
of_corrections ms cs CorrectionClash = next (next here)

pub positions_agree : (ms : List Mark) (ps : List Position) → Agree (position_checks ms ps)
positions_agree ms ps PositionMark i = tells_le (length ms) (position_at ps i).mark
positions_agree ms ps PositionLots i = lots (position_at ps i).lots
positions_agree ms ps PositionRepeated i = tells_some (holding_pair ps i) i (λ j. same_holding_lem (position_at ps i) (position_at ps j))

pub of_positions : (ms : List Mark) (ps : List Position) (c : PositionCheck) → Memᴰ c (position_checks ms ps).order
of_positions ms ps PositionMark = here
of_positions ms ps PositionLots = next here
of_positions ms ps PositionRepeated = next (next here)

-- ---- lists that stand in no file

pub many : (a m b n : ℕ) → Tells (ltb a m || ltb b n) ((a < m) ⊎ (b < n))
many a m b n = tells_or (ltb a m) (ltb b n) (tells_lt a m) (tells_lt b n)

pub mark_lists_agree : (l : Limits) (ms : List Mark) → Agree (mark_list_checks l ms)
mark_lists_agree l ms =
    agree_before (only (too_many_marks l ms)) (mark_checks ms) (agree_only (too_many_marks l ms) (λ i. tells_lt l.marks (length ms))) (marks_agree ms)

pub correction_lists_agree : (l : Limits) (ms : List Mark) (cs : List Correction) → Agree (correction_list_checks l ms cs)
correction_lists_agree l ms cs =
    agree_before (only (too_many_corrections l ms cs)) (correction_checks ms cs)
    (agree_only (too_many_corrections l ms cs) (λ i. many l.marks (length ms) l.corrections (length cs))) (corrections_agree ms cs)

pub position_lists_agree : (l : Limits) (ms : List Mark) (ps : List Position) → Agree (position_list_checks l ms ps)
position_lists_agree l ms ps =
    agree_before (only (too_many_positions l ms ps)) (position_checks ms ps)
    (agree_only (too_many_positions l ms ps) (λ i. many l.marks (length ms) l.positions (length ps))) (positions_agree ms ps)

-- ---- three lists, and a file

pub records_agree : (ls : Lists) → Agree (record_checks ls)
records_agree ls =
    let c = correction_checks ls.marks ls.corrections in
    let p = position_checks ls.marks ls.positions in
    agree_before (mark_checks ls.marks) (c before p) (marks_agree ls.marks)
    (agree_before c p (corrections_agree ls.marks ls.corrections) (positions_agree ls.marks ls.positions))

pub many_records : (l : Limits) (ls : Lists) → Tells ((too_many_records l ls).test 0) ((too_many_records l ls).Condition 0)
many_records l ls =
    let a = ltb l.marks (length ls.marks) in
    let b = ltb l.corrections (length ls.corrections) in
    tells_as or_three or_three_back (tells_or (a || b) _ (many l.marks (length ls.marks) l.corrections (length ls.corrections)) (tells_lt _ _))

pub lists_agree : (l : Limits) (ls : Lists) → Agree (list_checks l ls)
lists_agree l ls =
    agree_before (only (too_many_records l ls)) (record_checks ls) (agree_only (too_many_records l ls) (λ i. many_records l ls)) (records_agree ls)

pub file_agrees : (l : Limits) (f : List ℕ) → Agree (file_checks l f)
file_agrees l f = agree_before (header_checks l f) (record_checks (lists_of_file f)) (header_agrees l f) (records_agree (lists_of_file f))
