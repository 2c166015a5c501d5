-- The checks over the corrections, given the marks: 9 to 11; and the resent count.
use Rattle.std.specs.Prelude.{◌≡◌, ℕ, ◌<◌, ◌≤◌, Bool, cond, not, ◌&&◌, ◌||◌, ◌≢◌, ◌⊎◌, List, [], ◌∷◌, length, ◌==◌, nat_lt}
use Rattle.numbers.specs.Folds.{repeating, count}
use Rattle.numbers.specs.Checks.{Check, Checks, only, ◌before◌, decision_of}
use Rattle.numbers.specs.Order.{Decision}
use Rattle.faults.specs.Faults.{said}
use Rattle.products.specs.Products.{price_limit}
use Rattle.dayfile.specs.Limits.{Limits}
use Rattle.dayfile.specs.Records.{mark_at, correction_at}
use Rattle.dayfile.specs.declared.records.Mark.{Mark}
use Rattle.dayfile.specs.declared.records.Correction.{Correction}
use Rattle.checks.specs.Table.{above_limit}
use Rattle.checks.specs.Marks.{OffTick, off_tick, no_mark}
use Rattle.checks.specs.declared.corrections.CorrectionsJudged.{CorrectionsJudged}

-- ---- the words, and the test for each

-- a price breaks 6 or 7 for a mark
abbrev pub bad_price : Mark → ℕ → Bool
bad_price m p = above_limit p || off_tick m p

-- two corrections agree in number
abbrev pub same_number : Correction → Correction → Bool
same_number b c = b.number == c.number

abbrev pub number_pair : List Correction → ℕ → ℕ → Bool
number_pair cs i k = same_number (correction_at cs i) (correction_at cs k)

-- two corrections agree in number but differ in mark or price
abbrev pub Clash : Correction → Correction → Type 0
Clash b c = (b.number ≡ c.number) × ((b.mark ≢ c.mark) ⊎ (b.price ≢ c.price))

abbrev pub clashing : Correction → Correction → Bool
clashing b c = same_number b c && (not (b.mark == c.mark) || not (b.price == c.price))

abbrev pub clash_pair : List Correction → ℕ → ℕ → Bool
clash_pair cs i k = clashing (correction_at cs i) (correction_at cs k)

-- ---- the resent count

-- how many corrections bear a number that an earlier one bears
abbrev pub resent_of : List Correction → ℕ
resent_of cs = count (repeating (number_pair cs)) (length cs)

-- ---- the checks

pub data CorrectionCheck : Type 0 where
  CorrectionMark : CorrectionCheck
  CorrectionPrice : CorrectionCheck
  CorrectionClash : CorrectionCheck

module _ (ms : List Mark) (cs : List Correction) where
  abbrev pub correction_check : CorrectionCheck → Check
  -- 9: a correction names no mark
  correction_check CorrectionMark =
      record {
        number = 9;
        Condition = λ i. length ms ≤ (correction_at cs i).mark;
        test = λ i. no_mark ms (correction_at cs i).mark;
      }
  -- 10: a correction's price breaks 6 or 7 for its mark
  correction_check CorrectionPrice =
      record {
        number = 10;
        Condition = λ i. let c = correction_at cs i in (price_limit < c.price) ⊎ OffTick (mark_at ms c.mark) c.price;
        test = λ i. let c = correction_at cs i in bad_price (mark_at ms c.mark) c.price;
      }
  -- 11: a correction agrees with an earlier one in number but differs in mark or price
  correction_check CorrectionClash =
      record {
        number = 11;
        Condition = λ i. (j : ℕ) × (j < i) × Clash (correction_at cs i) (correction_at cs j);
        test = repeating (clash_pair cs);
      }

  abbrev pub correction_checks : Checks
  correction_checks =
      record {
        Name = CorrectionCheck;
        check = correction_check;
        size = λ c. length cs;
        order = CorrectionMark ∷ CorrectionPrice ∷ CorrectionClash ∷ [];
      }

-- what is said of corrections: what the checks decide, and the resent count
pub record Answer : Type 0 where
  pub decision : Decision
  pub resent : ℕ

-- what an answer of the code says
abbrev pub said_of_corrections : CorrectionsJudged → Answer
said_of_corrections c = record { decision = said c.decision; resent = c.resent }

-- the same of a list that stands in no file: 2 where a file may not have as many marks or corrections, before the others
module _ (l : Limits) (ms : List Mark) (cs : List Correction) where
  abbrev pub too_many_corrections : Check
  too_many_corrections =
      record {
        number = 2;
        Condition = λ i. (l.marks < length ms) ⊎ (l.corrections < length cs);
        test = λ i. nat_lt l.marks (length ms) || nat_lt l.corrections (length cs);
      }

  abbrev pub correction_list_checks : Checks
  correction_list_checks = only too_many_corrections before correction_checks ms cs

  -- what they decide, with the resent count, which is 0 where there are too many
  unfoldable pub corrections_judged : Answer
  corrections_judged = record { decision = decision_of correction_list_checks; resent = cond (too_many_corrections.test 0) 0 (resent_of cs) }
