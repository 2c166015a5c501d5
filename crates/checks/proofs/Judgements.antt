-- From the parts of a judgement to the whole.
use Rattle.std.proofs.Common.{◌≡◌, ℕ, List, sym, refl, ap, ◌∙◌}
use Rattle.numbers.specs.Order.{or_later, Decision, Met, Unmet}
use Rattle.numbers.specs.Checks.{◌before◌, decision_of, decision_for}
use Rattle.numbers.specs.declared.wanted.Wanted.{Wanted}
use Rattle.numbers.proofs.Checks.{decision-before, decision_for-before}
use Rattle.dayfile.specs.Limits.{file_limits}
use Rattle.dayfile.specs.Records.{Lists}
use Rattle.dayfile.specs.Layout.{lists_in, lists_of_file}
use Rattle.dayfile.specs.Opening.{header_checks, opened_of}
use Rattle.dayfile.specs.declared.file.DayFile.{DayFile}
use Rattle.dayfile.specs.Opening as opened
use Rattle.dayfile.proofs.Refusals.{refused_decides, opened_decides}
use Rattle.checks.specs.Marks.{mark_checks}
use Rattle.checks.specs.Corrections.{correction_checks, resent_of}
use Rattle.checks.specs.Positions.{position_checks}
use Rattle.checks.specs.Judging.{record_checks, judged_by, judged_of}
use Rattle.checks.specs.Judging.{Judged}
use Rattle.checks.specs.Judging.{Refused}

-- ---- three sections, one after the other

-- a section that refuses decides, whatever later ones say
pub decides : {n i : ℕ} {d : Decision} (e : Decision) → Met n i ≡ d → Met n i ≡ or_later d e
decides e p = rw (← p) refl

-- one that passes leaves it to them
pub goes_on : {x d e : Decision} → Unmet ≡ d → x ≡ e → x ≡ or_later d e
goes_on p q = rw (← p) q

pub by_sections : (ls : Lists) (w : Wanted)
    → or_later (decision_for (mark_checks ls.marks) w) (or_later (decision_for (correction_checks ls.marks ls.corrections) w) (decision_for (position_checks ls.marks ls.positions) w))
    ≡ decision_for (record_checks ls) w
by_sections ls w =
    let m = mark_checks ls.marks in
    let k = correction_checks ls.marks ls.corrections in
    let n = position_checks ls.marks ls.positions in
    sym (decision_for-before m (k before n) w ∙ ap (or_later (decision_for m w)) (decision_for-before k n w))

-- ---- a file

module _ (f : List ℕ) where
  pub judged_refused : {k : ℕ} → opened_of file_limits f ≡ opened.Refused k → Refused k 0 ≡ judged_of file_limits f
  unfolding judged_of
  judged_refused o = rw (decision-before (header_checks file_limits f) (record_checks (lists_of_file f)), refused_decides file_limits f o)

  pub judged_opened : {d : DayFile} {ls : Lists} {r : Judged} → opened_of file_limits f ≡ opened.File d → ls ≡ lists_in f d
      → r ≡ judged_by d (resent_of ls.corrections) (decision_of (record_checks ls)) → r ≡ judged_of file_limits f
  unfolding judged_of
  judged_opened o l e =
      let (u, q) = opened_decides file_limits f o in
      e ∙ rw (l, ← q, decision-before (header_checks file_limits f) (record_checks (lists_of_file f)), u)
