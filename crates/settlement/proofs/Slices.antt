-- What stands in the slice after a settlement.
use mathlib.Core.Path.{◌≡◌, refl, sym, ap, ◌∙◌}
use mathlib.Core.List.{List}
use Prim.Native.Nat.{ℕ, ◌≤◌, ◌<◌}
use native.Mathlib.Omega.{arith}
use lib.IntN.{ℤ, pos}
use lib.ListN.{length, get_or, drop}
use Rattle.products.specs.declared.table.Currency.{Currency}
use Rattle.products.specs.declared.table.Currency.TheVariants.{Aud, Nzd}
use Rattle.numbers.specs.Folds.{sum}
use Rattle.dayfile.specs.Limits.{Limits}
use Rattle.dayfile.specs.Layout.{lists_of_file}
use Rattle.products.specs.Products.{currency_of}
use Rattle.settlement.specs.Settling.{keep_of, amount_of, share_of, total_of, change_in, mark_in, settled, refused, totals, Plan, accept, refuse, answer_by, paid_by, plan_of, answer_of, amounts_after}
use Rattle.numbers.proofs.Tables.{entry, length_front, drop-front}
use Rattle.checks.proofs.Passed.{mark_in_lem}
use Rattle.settlement.proofs.Totals.{total-is}
use Rattle.numbers.proofs.SignedSums.{sum_below}
use Rattle.settlement.proofs.Accepted.{AcceptedFile, accepted_plan, settled_accepted}

-- the one of two totals that a currency has
abbrev pub of_two : Currency → ℤ → ℤ → ℤ
of_two Aud aud nzd = aud
of_two Nzd aud nzd = nzd

by_refusal : (p : Plan) (a : List ℤ) {k i : ℕ} → answer_by p ≡ refused k i → paid_by p a ≡ a
by_refusal (refuse k i) a e = refl
by_refusal (accept ls) a e = absurd (let z : ◌≡◌ {A = ℕ} 0 1 = cc in omega arith)

module _ (l : Limits) (f : List ℕ) (a : List ℤ) where
  -- a refusal leaves the slice as it was
  pub refusal_leaves : {k i : ℕ} → answer_of l f (length a) ≡ refused k i → amounts_after l f a ≡ a
  unfolding answer_of amounts_after
  refusal_leaves e = by_refusal (plan_of l f (length a)) a e

  module _ {n k : ℕ} {x y : ℤ} (e : answer_of l f (length a) ≡ settled n x y k) where
    pub accepted : AcceptedFile l f (length a)
    accepted = settled_accepted l f (length a) e

    is-totals : totals (lists_of_file f) ≡ settled n x y k
    unfolding answer_of
    is-totals = ap answer_by (sym (accepted_plan l f (length a) accepted)) ∙ e

    pub counted : length (lists_of_file f).positions ≡ n
    counted = let t = is-totals in cc

    pub has_room : n ≤ length a
    has_room = rw (← counted) accepted.room

    total_was : (wanted : Currency) → total_of (lists_of_file f).marks (lists_of_file f).positions (change_in (lists_of_file f)) wanted ≡ of_two wanted x y
    total_was Nzd = let t = is-totals in cc
    total_was Aud = let t = is-totals in cc

    pub slice_is : amounts_after l f a ≡ paid_by (accept (lists_of_file f)) a
    unfolding amounts_after
    slice_is = ap (λ p. paid_by p a) (accepted_plan l f (length a) accepted)

    pub length-kept : length (amounts_after l f a) ≡ length a
    length-kept = ap length slice_is ∙ length_front (amount_of (lists_of_file f).positions (change_in (lists_of_file f))) a (length (lists_of_file f).positions) accepted.room

    pub rest-kept : drop n (amounts_after l f a) ≡ drop n a
    rest-kept = rw (slice_is, ← counted) (drop-front (amount_of (lists_of_file f).positions (change_in (lists_of_file f))) a (length (lists_of_file f).positions))

    -- the amount of position i stands at place i
    pub amount_stands : (i : ℕ) → i < n → get_or (amounts_after l f a) i (pos 0) ≡ amount_of (lists_of_file f).positions (change_in (lists_of_file f)) i
    amount_stands i h = rw slice_is (entry (amount_of (lists_of_file f).positions (change_in (lists_of_file f))) (length (lists_of_file f).positions) i _ (pos 0) (rw counted h))

    -- a currency's total is the sum of what stands in the slice for its positions
    pub total_stands : (wanted : Currency) → of_two wanted x y ≡ sum (λ i. keep_of wanted (currency_of (mark_in f i).code) (get_or (amounts_after l f a) i (pos 0))) n
    unfolding share_of
    total_stands wanted =
        let ms = (lists_of_file f).marks in
        let ps = (lists_of_file f).positions in
        sym (total_was wanted) ∙ total-is ms ps (change_in (lists_of_file f)) wanted (λ i h. mark_in_lem (lists_of_file f) accepted.passed i h)
        ∙ ap (sum (share_of ms ps (change_in (lists_of_file f)) wanted)) counted
        ∙ sum_below (share_of ms ps (change_in (lists_of_file f)) wanted) (λ i. keep_of wanted (currency_of (mark_in f i).code) (get_or (amounts_after l f a) i (pos 0))) n
        (λ i h. ap (keep_of wanted (currency_of (mark_in f i).code)) (sym (amount_stands i h)))
