-- What is promised of a day file's settlement. Open this file first: each of the three demands, which document 01 cites by number, is stated here
-- in the terms of specs/, and its argument stands in the file it cites. `answer_of l f places` is the answer to the file f with a slice of so many
-- places, and `amounts_after l f a` the slice afterwards that was a before: the contract of `settle` says that its answer and its slice are these,
-- for the limits `file_limits`.
use mathlib.Core.Path.{◌≡◌, refl, sym, ap, ◌∙◌}
use mathlib.Core.List.{List, [], ◌∷◌, ◌++◌, map, Memᴰ}
use mathlib.Core.Logic.{◌⊎◌, inl, inr, ⊎_elim, ◌↔◌, ◌≢◌}
use Prim.Native.Nat.{ℕ, suc, ◌+◌, ◌*◌, ◌-◌, ◌≤◌, ◌<◌}
use lib.Dec.{eqb}
use lib.IntN.{ℤ, pos, nat_abs, ◌-ℤ◌, ◌*ℤ◌, +ℤ_invr, *ℤ-zero}
use lib.Signed.{◌≤ℤ◌}
use lib.ListN.{length, get_or, take, drop}
use Rattle.numbers.specs.Fractions.{◌minus◌, ◌times◌, Within}
use Rattle.pricing.specs.Calls.{given, value_of}
use Rattle.pricing.specs.Value.{exact_of}
use Rattle.pricing.specs.Accuracy.{accuracy_of}
use Rattle.products.specs.declared.table.Currency.TheVariants.{Aud, Nzd}
use Rattle.numbers.specs.Bytes.{Bytes, u32_at}
use Rattle.numbers.specs.Folds.{sum, count, some}
use Rattle.dayfile.specs.Limits.{Limits, file_limits}
use Rattle.dayfile.specs.Records.{mark_at, correction_at}
use Rattle.dayfile.specs.Layout.{counts_of, lists_of_file}
use Rattle.products.specs.Products.{currency_of}
use Rattle.numbers.specs.Checks.{number_of}
use Rattle.settlement.specs.Conditions.{settlement_checks, TurnedAway, NotTurnedAway}
use Rattle.settlement.specs.Prices.{Highest, highest_of, final_of, FinalPrice, DecidingCorrection, AllIn}
use Rattle.settlement.specs.OneMark.{priced, mark_answer_of}
use Rattle.checks.specs.Corrections.{resent_of}
use Rattle.settlement.specs.Settling.{amount_of, change_in, keep_of, position_in, mark_in, previous_in, final_in, Answer, settled, refused, totals, answer_of, amounts_after}
use Rattle.settlement.specs.Prices.FinalPrice.{corrected, uncorrected}
use Rattle.settlement.specs.Resend.{SentAgain, correction_records, Resent}
use Rattle.settlement.specs.Resend.SentAgain.{end, kept, copy}
use Rattle.dayfile.specs.declared.records.Mark.{Mark}
use Rattle.dayfile.specs.declared.records.Correction.{Correction}
use Rattle.dayfile.proofs.Opening as opening
use Rattle.dayfile.proofs.Parts.{marks_sized, corrections_sized, positions_sized}
use Rattle.pricing.proofs.Promises as promises
use Rattle.settlement.proofs.Corrections as corrections
use Rattle.numbers.proofs.Counting as counting
use Rattle.settlement.proofs.FinalPrices as prices
use Rattle.settlement.proofs.Values.{amount_valued}
use Rattle.numbers.proofs.Signs.{difference_is, keeps-above, keeps_below}
use Rattle.settlement.proofs.Accepted.{settled_accepted}
use Rattle.settlement.proofs.Plans.{refused-answer}
use Rattle.checks.proofs.Passed.{mark_in_lem}
use Rattle.settlement.proofs.OneMark.{mark-answer}
use Rattle.settlement.proofs.Slices as slices
use Rattle.settlement.proofs.Refusals.{refused_exactly, accepted_exactly}
use Rattle.settlement.proofs.Resending as resending
use Rattle.settlement.proofs.ResentMade as made

-- ---- the first demand: what becomes of the slice

-- a refusal leaves the slice as it was; an acceptance, of a slice with at least N places, leaves its length and the places from N on
abbrev pub Leaves : Answer → List ℤ → List ℤ → Type 0
Leaves (refused k i) before after = after ≡ before
Leaves (settled n aud nzd resent) before after = (n ≤ length before) × (length after ≡ length before) × (drop n after ≡ drop n before)

pub demand_1 : (l : Limits) (f : List ℕ) (a : List ℤ) → Leaves (answer_of l f (length a)) a (amounts_after l f a)
demand_1 l f a = by_answer (answer_of l f (length a)) refl
  where
    by_answer : (x : Answer) → answer_of l f (length a) ≡ x → Leaves x a (amounts_after l f a)
    by_answer (refused k i) e = slices.refusal_leaves l f a e
    by_answer (settled n aud nzd resent) e = (slices.has_room l f a e, slices.length-kept l f a e, slices.rest-kept l f a e)

-- ---- the second demand: the answer

-- The answer is a refusal with number k at record i exactly where check k's condition holds at i, at no record before it, and no earlier check's
-- condition holds at any record.
pub demand_2 : (l : Limits) (f : List ℕ) (places : ℕ) {k i : ℕ} → (answer_of l f places ≡ refused k i) ↔ TurnedAway l f places k i
demand_2 l f places = refused_exactly l f places

-- The file is accepted, with the number of its positions, both totals and the resent count, exactly where no condition holds at any record.
pub demand_2_accepted : (l : Limits) (f : List ℕ) (places : ℕ) → (answer_of l f places ≡ totals (lists_of_file f)) ↔ NotTurnedAway l f places
demand_2_accepted l f places = accepted_exactly l f places

-- The checks, in their order.
pub numbers_in_order : (l : Limits) (f : List ℕ) (places : ℕ)
    → map (number_of (settlement_checks l f places)) (settlement_checks l f places).order ≡ 1 ∷ 2 ∷ 3 ∷ 4 ∷ 5 ∷ 6 ∷ 7 ∷ 8 ∷ 9 ∷ 10 ∷ 11 ∷ 12 ∷ 13 ∷ 16 ∷ 14 ∷ []
numbers_in_order l f places = refl

-- A file that is longer than one with as many records as the limits allow, 24 + 12 times (256 + 512 + 4,096) bytes, is refused with 2 or 3.
pub too_long : (f : List ℕ) (places : ℕ) → 58392 < length f → (answer_of file_limits f places ≡ refused 2 0) ⊎ (answer_of file_limits f places ≡ refused 3 0)
too_long f places h = ⊎_elim (λ e. inl (refused-answer file_limits f places e)) (λ e. inr (refused-answer file_limits f places e)) (opening.too_long f h)

-- N is the header's count of positions, and the lists of an accepted file have as many records as its header counts.
pub header-counts : (l : Limits) (f : List ℕ) (a : List ℤ) {n k : ℕ} {aud nzd : ℤ} → answer_of l f (length a) ≡ settled n aud nzd k
    → (n ≡ u32_at f 16) × (length (lists_of_file f).positions ≡ n) × (length (lists_of_file f).marks ≡ u32_at f 0) × (length (lists_of_file f).corrections ≡ u32_at f 8)
unfolding counts_of
header-counts l f a e =
    let whole = (slices.accepted l f a e).opens.ends_at in
    let n = slices.counted l f a e in
    (sym n ∙ positions_sized f (counts_of f) whole, n, marks_sized f (counts_of f) whole, corrections_sized f (counts_of f) whole)

-- ---- each amount, and the third demand

-- For position i of a file that is accepted: `amount` is what stands in place i of the slice.
module _ (l : Limits) (f : List ℕ) (a : List ℤ) {n k : ℕ} {aud nzd : ℤ} (e : answer_of l f (length a) ≡ settled n aud nzd k) (i : ℕ) (h : i < n) where
  abbrev pub amount : ℤ
  amount = get_or (amounts_after l f a) i (pos 0)

  -- Both settlement prices have a value, and the amount is lots times (value at the final price − value at the previous price).
  pub amount_by_values : (v : ℕ) × (w : ℕ) × (value_of (mark_in f i).code (previous_in f i) ≡ given v) × (value_of (mark_in f i).code (final_in f i) ≡ given w)
      × (amount ≡ (position_in f i).lots *ℤ (pos w -ℤ pos v))
  amount_by_values =
      let (v, w, p, q, r) = amount_valued (lists_of_file f) (slices.accepted l f a e).passed i (rw (slices.counted l f a e) h) in
      (v, w, p, q, slices.amount_stands l f a e i h ∙ r)

  -- 1,000 times the amount lies within the product's accuracy figure times the lots without their sign of 1,000 times lots times the difference
  -- of the exact values.
  pub demand_3_accuracy :
      Within (pos 1000 *ℤ amount) (pos 1000 times (position_in f i).lots times (exact_of (mark_in f i).code (final_in f i) minus exact_of (mark_in f i).code (previous_in f i)))
      (accuracy_of (mark_in f i).code (previous_in f i) (final_in f i) * nat_abs (position_in f i).lots)
  demand_3_accuracy =
      let (v, w, p, q, r) = amount_by_values in
      rw r (promises.accurate (mark_in f i).code (previous_in f i) (final_in f i) p q (position_in f i).lots)

  -- After a rise the amount is at least 0 for positive lots and at most 0 for negative ones.
  pub demand_3_rise : previous_in f i ≤ final_in f i → (pos 0 ≤ℤ (position_in f i).lots → pos 0 ≤ℤ amount) × ((position_in f i).lots ≤ℤ pos 0 → amount ≤ℤ pos 0)
  demand_3_rise up =
      let (v, w, p, q, r) = amount_by_values in
      rw (r, difference_is v w (promises.value_rises (mark_in f i).code up p q)) (keeps-above (position_in f i).lots (w - v), keeps_below (position_in f i).lots (w - v))

  -- With equal prices it is 0.
  pub demand_3_no_change : previous_in f i ≡ final_in f i → amount ≡ pos 0
  demand_3_no_change equal =
      let (v, w, p, q, r) = amount_by_values in
      let same : v ≡ w = cc in
      r ∙ rw (same, +ℤ_invr (pos w), *ℤ-zero (position_in f i).lots)

  -- What is said of the position's mark has the position's two settlement prices, and the amount is lots times the change that it has.
  pub amount_by_mark : {previous final : ℕ} {d : Highest} {z : ℤ} → mark_answer_of l f (position_in f i).mark ≡ priced previous final d z
      → (previous ≡ previous_in f i) × (final ≡ final_in f i) × (amount ≡ (position_in f i).lots *ℤ z)
  unfolding amount_of
  amount_by_mark {z = z} said =
      let acc = slices.accepted l f a e in
      let inside = mark_in_lem (lists_of_file f) acc.passed i (rw (slices.counted l f a e) h) in
      let same = sym (mark-answer l f (position_in f i).mark acc inside) ∙ said in
      let change : change_in (lists_of_file f) (position_in f i).mark ≡ z = cc in
      (cc, cc, slices.amount_stands l f a e i h ∙ ap (λ x. (position_in f i).lots *ℤ x) change)

-- The file g, which is f with copies of its corrections sent again and is brought into line, is accepted too: N and both totals are those of f,
-- each amount is the one in the same place for f, and the resent count is that of f plus the copies.
pub demand_3_resend : (l : Limits) (f g : List ℕ) (copies n k : ℕ) (aud nzd : ℤ) (a b : List ℤ) → Resent f g copies → u32_at g 8 ≤ l.corrections → n ≤ length b
    → answer_of l f (length a) ≡ settled n aud nzd k
    → (answer_of l g (length b) ≡ settled n aud nzd (k + copies)) × (take n (amounts_after l g b) ≡ take n (amounts_after l f a))
demand_3_resend l f g copies n k aud nzd a b = resending.resend l f g copies n k aud nzd a b

-- Corrections sent again: none at first, and one copy more may stand anywhere.
pub sent_none : {base : List (List ℕ)} (cs : List (List ℕ)) → SentAgain base cs cs 0
sent_none [] = end
sent_none (c ∷ cs) = kept (sent_none cs)

pub sent_anywhere : {base cs : List (List ℕ)} (xs ys : List (List ℕ)) {c : List ℕ} {k : ℕ} → Memᴰ c base → SentAgain base cs (xs ++ ys) k
    → SentAgain base cs (xs ++ (c ∷ ys)) (suc k)
sent_anywhere [] ys m s = copy m s
sent_anywhere (x ∷ xs) ys m (kept s) = kept (sent_anywhere xs ys m s)
sent_anywhere (x ∷ xs) ys m (copy n s) = copy n (sent_anywhere xs ys m s)

-- There is such a file for every list of corrections sent again within the limit, of bytes where f is, so the claim is not an empty one.
pub resent_exists : (f : List ℕ) (ds : List (List ℕ)) (copies n k : ℕ) (aud nzd : ℤ) (a : List ℤ) → answer_of file_limits f (length a) ≡ settled n aud nzd k
    → SentAgain (correction_records f) (correction_records f) ds copies → length ds ≤ file_limits.corrections
    → (g : List ℕ) × Resent f g copies × (correction_records g ≡ ds) × (u32_at g 8 ≤ file_limits.corrections) × (Bytes f → Bytes g)
resent_exists f ds copies n k aud nzd a = made.resent_exists f ds copies n k aud nzd a

-- ---- totals, final prices and the resent count

-- The total of a currency is the sum of the amounts of its positions, as they stand in the slice.
pub totals_are_sums : (l : Limits) (f : List ℕ) (a : List ℤ) {n k : ℕ} {aud nzd : ℤ} → answer_of l f (length a) ≡ settled n aud nzd k
    → (aud ≡ sum (λ i. keep_of Aud (currency_of (mark_in f i).code) (get_or (amounts_after l f a) i (pos 0))) n)
    × (nzd ≡ sum (λ i. keep_of Nzd (currency_of (mark_in f i).code) (get_or (amounts_after l f a) i (pos 0))) n)
totals_are_sums l f a e = (slices.total_stands l f a e Aud, slices.total_stands l f a e Nzd)

-- The final price is the one that document 01 describes.
pub final_price-is : (ms : List Mark) (cs : List Correction) (m : ℕ) → FinalPrice ms cs m (final_of ms cs m)
final_price-is ms cs m = prices.final_price-is ms cs m

-- The correction that decides: the highest-numbered of those that name the mark, and none where none names it.
pub deciding_is : (cs : List Correction) (m : ℕ) → DecidingCorrection cs m (length cs) (highest_of cs m (length cs))
deciding_is cs m = prices.deciding_is cs m (length cs)

-- In an accepted file:
module _ (l : Limits) (f : List ℕ) (places : ℕ) {n k : ℕ} {aud nzd : ℤ} (e : answer_of l f places ≡ settled n aud nzd k) where
  -- The final price is the only one that document 01's words allow.
  pub one_final_price : (m p : ℕ) → FinalPrice (lists_of_file f).marks (lists_of_file f).corrections m p → p ≡ final_of (lists_of_file f).marks (lists_of_file f).corrections m
  one_final_price m p d =
      let ls = lists_of_file f in
      prices.one_final ls.marks ls.corrections
      (corrections.apart ls.marks ls.positions ls.corrections (settled_accepted l f places e).passed) m d (prices.final_price-is ls.marks ls.corrections m)

  -- A correction with the highest number of those that name its mark decides, wherever it stands; where none names it, today's price stands.
  pub highest_decides : (k : ℕ) → k < length (lists_of_file f).corrections
      → ((j : ℕ) → j < length (lists_of_file f).corrections → (correction_at (lists_of_file f).corrections j).mark ≡ (correction_at (lists_of_file f).corrections k).mark
      → (correction_at (lists_of_file f).corrections j).number ≤ (correction_at (lists_of_file f).corrections k).number)
      → final_of (lists_of_file f).marks (lists_of_file f).corrections (correction_at (lists_of_file f).corrections k).mark ≡ (correction_at (lists_of_file f).corrections k).price
  highest_decides k h top = sym (one_final_price _ _ (corrected k h refl refl top))

  pub uncorrected_stands : (m : ℕ) → ((k : ℕ) → k < length (lists_of_file f).corrections → (correction_at (lists_of_file f).corrections k).mark ≢ m)
      → final_of (lists_of_file f).marks (lists_of_file f).corrections m ≡ (mark_at (lists_of_file f).marks m).today
  uncorrected_stands m none = sym (one_final_price _ _ (uncorrected none refl))

  -- The final price depends only on which corrections occur, not on their order or on how often each occurs.
  pub same-corrections-same_prices : (ds : List Correction) → AllIn (lists_of_file f).corrections ds → AllIn ds (lists_of_file f).corrections
      → final_of (lists_of_file f).marks ds ≡ final_of (lists_of_file f).marks (lists_of_file f).corrections
  same-corrections-same_prices ds to back =
      let ls = lists_of_file f in
      sym (prices.same_finals ls.marks ls.corrections ds to back (corrections.apart ls.marks ls.positions ls.corrections (settled_accepted l f places e).passed))

-- The resent count and the number of different numbers, which are all below top, make up the length of the list.
pub resent_and_different : (cs : List Correction) (top : ℕ) → ((i : ℕ) → i < length cs → (correction_at cs i).number < top)
    → count (λ v. some (λ i. eqb v (correction_at cs i).number) (length cs)) top + resent_of cs ≡ length cs
resent_and_different cs top below = counting.different_and_repeated (λ i. (correction_at cs i).number) top (length cs) below
