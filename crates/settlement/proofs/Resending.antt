-- Corrections sent again: the file is accepted still, with the same prices and amounts, and more resent.
use mathlib.Core.Path.{◌≡◌, refl, sym, subst, ap, ap₂, ◌∙◌}
use mathlib.Core.List.Memᴰ
use mathlib.Core.List.{List, [], ◌∷◌, map, Memᴰ}
use Prim.Native.Nat.{ℕ, zero, suc, ◌+◌, ◌≤◌, ◌<◌}
use native.Mathlib.Nat.{not-suc-le-zero, le_of_suc-le-suc}
use native.Mathlib.Omega.{arith}
use lib.IntN.{ℤ}
use lib.ListN.{length, get_or, take, length-map, get_or-map}
use Rattle.numbers.specs.Bytes.{u32_at}
use Rattle.dayfile.specs.Records.{Lists, correction_at, correction_of, marks_in, positions_in}
use Rattle.numbers.specs.Checks.{decision_of}
use Rattle.checks.specs.Judging.{record_checks}
use Rattle.dayfile.specs.Limits.{Limits}
use Rattle.dayfile.specs.Layout.{lists_of_file, counts_of}
use Rattle.settlement.specs.Prices.{AllIn, change_of}
use Rattle.checks.specs.Corrections.{resent_of}
use Rattle.settlement.specs.Settling.{amount_of, change_in, Answer, settled, refused, accept, answer_of, amounts_after, totals}
use Rattle.settlement.specs.Resend.{SentAgain, end, kept, copy, correction_records, Resent}
use Rattle.numbers.proofs.Tables.{take-front}
use Rattle.settlement.proofs.Corrections.{lists_with, apart, still_passes}
use Rattle.settlement.proofs.FinalPrices.{same_finals}
use Rattle.settlement.proofs.ResentCount.{same_numbers}
use Rattle.dayfile.proofs.Opening.{Opens}
use Rattle.settlement.proofs.Accepted.{AcceptedFile, accepted_plan, settled_accepted}
use Rattle.numbers.specs.Order.{Unmet}

-- ---- "sent again": the same records, and so the same corrections

module _ {base : List (List ℕ)} where
  pub sent_within : {cs ds : List (List ℕ)} {k : ℕ} → SentAgain base cs ds k → ((r : List ℕ) → Memᴰ r cs → Memᴰ r base) → (r : List ℕ) → Memᴰ r ds → Memᴰ r base
  sent_within end h c m = h c m
  sent_within (kept r) h c (Memᴰ.head q) = h c (Memᴰ.head q)
  sent_within (kept r) h c (Memᴰ.tail m) = sent_within r (λ x n. h x (Memᴰ.tail n)) c m
  sent_within (copy here r) h c (Memᴰ.head q) = Memᴰ.cast q here
  sent_within (copy here r) h c (Memᴰ.tail m) = sent_within r h c m

  sent_contains : {cs ds : List (List ℕ)} {k : ℕ} → SentAgain base cs ds k → (r : List ℕ) → Memᴰ r cs → Memᴰ r ds
  sent_contains end c m = m
  sent_contains (kept r) c (Memᴰ.head q) = Memᴰ.head q
  sent_contains (kept r) c (Memᴰ.tail m) = Memᴰ.tail (sent_contains r c m)
  sent_contains (copy here r) c m = Memᴰ.tail (sent_contains r c m)

  pub sent_length : {cs ds : List (List ℕ)} {k : ℕ} → SentAgain base cs ds k → length ds ≡ length cs + k
  sent_length end = refl
  sent_length (kept r) = let e = sent_length r in omega arith
  sent_length (copy here r) = let e = sent_length r in omega arith

member : (rs : List (List ℕ)) (i : ℕ) → i < length rs → Memᴰ (get_or rs i []) rs
member [] i h = absurd (not-suc-le-zero h)
member (r ∷ rs) zero h = Memᴰ.head refl
member (r ∷ rs) (suc i) h = Memᴰ.tail (member rs i (le_of_suc-le-suc h))

place : {r : List ℕ} {rs : List (List ℕ)} → Memᴰ r rs → (j : ℕ) × (j < length rs) × (get_or rs j [] ≡ r)
place (Memᴰ.head q) = (0, omega arith, sym q)
place (Memᴰ.tail m) = let (j, h, e) = place m in (suc j, omega arith, e)

-- records that occur, by index, as corrections
corrections-within : (rs qs : List (List ℕ)) → ((r : List ℕ) → Memᴰ r rs → Memᴰ r qs) → AllIn (map correction_of rs) (map correction_of qs)
unfolding correction_at
corrections-within rs qs h i l =
    let (j, k, e) = place (h (get_or rs i []) (member rs i (rw (length-map rs correction_of) at l))) in
    (j, rw (length-map qs correction_of) k, get_or-map correction_of qs j [] ∙ ap correction_of e ∙ sym (get_or-map correction_of rs i []))

-- ---- the resend theorem

module _ (l : Limits) (f g : List ℕ) (copies p q : ℕ) (r : Resent f g copies) (acc : AcceptedFile l f p) (fits : u32_at g 8 ≤ l.corrections) where
  in_line : Opens l g
  unfolding counts_of
  in_line =
      let h = acc.opens in
      let m = r.mark-count in
      let c = r.correction_count in
      let n = r.position_count in
      record {
        header = omega (arith, h.header, r.file-length);
        marks_fit = omega (arith, h.marks_fit);
        corrections_fit = fits;
        positions_fit = omega (arith, h.positions_fit);
        marks-at = r.marks_offset ∙ h.marks-at;
        corrections-at = omega (arith, r.corrections_offset, h.corrections-at);
        positions-at = omega (arith, r.positions_offset, h.positions-at);
        ends_at = omega (arith, r.file-length, h.ends_at);
      }

  to : AllIn (lists_of_file f).corrections (lists_of_file g).corrections
  to = corrections-within (correction_records f) (correction_records g) (sent_contains r.corrections)

  back : AllIn (lists_of_file g).corrections (lists_of_file f).corrections
  back = corrections-within (correction_records g) (correction_records f) (sent_within r.corrections (λ c m. m))

  marks-same : (lists_of_file g).marks ≡ (lists_of_file f).marks
  marks-same = ap marks_in r.marks

  positions-same : (lists_of_file g).positions ≡ (lists_of_file f).positions
  positions-same = ap positions_in r.positions

  abbrev merged : Lists
  merged = lists_with (lists_of_file f).marks (lists_of_file f).positions (lists_of_file g).corrections

  lists_are : lists_of_file g ≡ merged
  lists_are = ap₂ (λ ms ps. lists_with ms ps (lists_of_file g).corrections) marks-same positions-same

  passes : decision_of (record_checks merged) ≡ Unmet
  passes = still_passes (lists_of_file f).marks (lists_of_file f).positions (lists_of_file f).corrections acc.passed (lists_of_file g).corrections back

  pub still_accepted : length (lists_of_file f).positions ≤ q → AcceptedFile l g q
  still_accepted room = record { opens = in_line; passed = subst (λ (ls : Lists). decision_of (record_checks ls) ≡ Unmet) (sym lists_are) passes; room = rw positions-same room }

  pub changes_same : change_in merged ≡ change_in (lists_of_file f)
  changes_same =
      let ls = lists_of_file f in
      ap (change_of ls.marks) (sym (same_finals ls.marks ls.corrections (lists_of_file g).corrections to back (apart ls.marks ls.positions ls.corrections acc.passed)))

  pub resent_more : resent_of (lists_of_file g).corrections ≡ resent_of (lists_of_file f).corrections + copies
  resent_more =
      let e = same_numbers (lists_of_file f).corrections (lists_of_file g).corrections to back in
      let a = length-map (correction_records f) correction_of in
      let b = length-map (correction_records g) correction_of in
      let k = sent_length r.corrections in
      omega arith

-- an answer with k more resent
abbrev sent_more : ℕ → Answer → Answer
sent_more k (settled n a b r) = settled n a b (r + k)
sent_more k (refused n i) = refused n i

-- Copies of corrections sent again: the answer keeps its count and both totals, the resent count grows by the copies, and each amount stays.
pub resend : (l : Limits) (f g : List ℕ) (copies n k : ℕ) (x y : ℤ) (a b : List ℤ) → Resent f g copies → u32_at g 8 ≤ l.corrections → n ≤ length b
    → answer_of l f (length a) ≡ settled n x y k
    → (answer_of l g (length b) ≡ settled n x y (k + copies)) × (take n (amounts_after l g b) ≡ take n (amounts_after l f a))
unfolding answer_of amounts_after
resend l f g copies n k x y a b r fits room e =
    let acc = settled_accepted l f (length a) e in
    let plan = accepted_plan l f (length a) acc in
    let was : totals (lists_of_file f) ≡ settled n x y k = rw plan at e in
    let count : length (lists_of_file f).positions ≡ n = cc in
    let acc' = still_accepted l f g copies (length a) (length b) r acc fits (rw count room) in
    let plan' = accepted_plan l g (length b) acc' ∙ ap accept (lists_are l f g copies (length a) (length b) r acc fits) in
    let change = changes_same l f g copies (length a) (length b) r acc fits in
    let amounts : ℕ → ℤ = amount_of (lists_of_file f).positions (change_in (lists_of_file f)) in
    let more = resent_more l f g copies (length a) (length b) r acc fits in (
      rw (plan', change, more) (ap (sent_more copies) was),
      rw (plan, plan', change, ← count) (take-front amounts b (length (lists_of_file f).positions) ∙ sym (take-front amounts a (length (lists_of_file f).positions))),
    )
