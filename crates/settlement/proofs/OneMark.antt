-- The prices of one mark, as the code finds them.
use Rattle.std.proofs.Common.{◌≡◌, ℕ, ◌+◌, ◌<◌, List, ℤ, pos, ◌-ℤ◌, Option, Some, None, length, refl, ap, ◌∙◌, add-one}
use Rattle.std.specs.Option.{option_map}
use borrow.Author.Tests.{lt-leb}
use Rattle.dayfile.specs.Limits.{Limits, file_limits}
use Rattle.dayfile.specs.Records.{marks_in, corrections_in, mark_at, correction_at}
use Rattle.dayfile.specs.Layout.{mark_bytes, correction_bytes, lists_of_file}
use Rattle.dayfile.proofs.Opening.{opens_file}
use Rattle.checks.proofs.Passed.{parts_passed}
use Rattle.settlement.proofs.Accepted.{AcceptedFile}
use Rattle.dayfile.specs.declared.file.DayFile.{DayFile}
use Rattle.dayfile.specs.declared.records.Mark.{Mark}
use Rattle.dayfile.specs.declared.records.Correction.{Correction}
use Rattle.checks.specs.Judging.{judged_of}
use Rattle.checks.specs.Judging.{Judged}
use Rattle.settlement.specs.ContractValue.{value_or_zero}
use Rattle.settlement.specs.Prices.{Highest, after_of, highest_of, or_today, final_of}
use Rattle.settlement.specs.OneMark.{MarkAnswer, priced, highest_in, highest_by, priced_mark, mark_answer_in, mark_answer_by, mark_answer_of}
use Rattle.settlement.proofs.Changes.{change_by}

-- one correction more
pub one_more : (cs : List Correction) (m k : ℕ) {x y : Highest} {c : Correction} → x ≡ highest_of cs m k → c ≡ correction_at cs k → y ≡ after_of m x c → y ≡ highest_of cs m (k + 1)
unfolding highest_of
one_more cs m k p q e = rw (add-one, ← p, ← q) e

-- ---- the answer

-- the number of the correction that decides, with the final price
deciding : (d : Option Correction) (n : Option ℕ) (today : ℕ) → n ≡ option_map (λ (c : Correction). c.number) d → highest_by n (or_today (highest_in d) today) ≡ highest_in d
deciding (Some c) n today e = rw e
deciding None n today e = rw e

priced_by : {a a' q q' : ℕ} {l l' : Highest} {z z' : ℤ} → a ≡ a' → q ≡ q' → l ≡ l' → z ≡ z' → priced a q l z ≡ priced a' q' l' z'
priced_by a q l z = cc

pub mark-priced : (ms : List Mark) (cs : List Correction) (m : ℕ) (d : Option Correction) (n : Option ℕ) {k : Mark} {q : ℕ} {z : ℤ} → k ≡ mark_at ms m
    → highest_in d ≡ highest_of cs m (length cs) → n ≡ option_map (λ (c : Correction). c.number) d
    → q ≡ or_today (highest_in d) k.today → z ≡ pos (value_or_zero k.code q) -ℤ pos (value_or_zero k.code k.previous)
    → priced k.previous q (highest_by n q) z ≡ priced_mark ms cs m
unfolding final_of
mark-priced ms cs m d n {k} {q} e l i f c =
    let final : q ≡ final_of ms cs m = f ∙ rw (l, e) in
    priced_by (ap (λ (x : Mark). x.previous) e) final (ap (highest_by n) f ∙ deciding d n k.today i ∙ l) (change_by ms (final_of ms cs) m c refl refl final e)

module _ (f : List ℕ) (m : ℕ) where
  pub mark_answered : {q : Judged} {x : MarkAnswer} → q ≡ judged_of file_limits f → x ≡ mark_answer_by f m q → x ≡ mark_answer_of file_limits f m
  unfolding mark_answer_of
  mark_answered e h = rw (← e) h

  pub sections_answer : (d : DayFile) {a b : List ℕ} {x : MarkAnswer} → a ≡ mark_bytes f d → b ≡ correction_bytes f d → x ≡ mark_answer_in (marks_in a) (corrections_in b) m
      → x ≡ mark_answer_in (marks_in (mark_bytes f d)) (corrections_in (correction_bytes f d)) m
  sections_answer d p q e = e ∙ rw (p, q)

-- of an accepted file and one of its marks
pub mark-answer : (l : Limits) (f : List ℕ) (m : ℕ) {places : ℕ} → AcceptedFile l f places → m < length (lists_of_file f).marks
    → mark_answer_of l f m ≡ priced_mark (lists_of_file f).marks (lists_of_file f).corrections m
unfolding mark_answer_of judged_of
mark-answer l f m acc h = rw (parts_passed l f (opens_file l f acc.opens) acc.passed, lt-leb _ _ h)
