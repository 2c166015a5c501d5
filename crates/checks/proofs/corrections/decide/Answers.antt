-- Each check by the first correction that fails it.
use Rattle.std.proofs.Common.{◌≡◌, length, ◌∙◌, rules}
use Rattle.dayfile.specs.Records.{marks_in, corrections_in}
use Rattle.checks.specs.Corrections.{correction_check, CorrectionMark, CorrectionPrice}
use Rattle.numbers.specs.Folds.{first}
use Rattle.numbers.proofs.Searches.{first_is}
use Rattle.checks.proofs.Deciding.{handed_on, decides, goes_on}
use Rattle.checks.proofs.corrections.decide.Goals.{After-first_where, After-first_where-2}
use Rattle.checks.proofs.corrections.decide.Goals as goal

missing : (c : After-first_where) → let cs = corrections_in c.args.corrections.now in
    c.first_where.result ≡ first (correction_check (marks_in c.args.marks.marks.now) cs CorrectionMark).test (length cs)
missing c =
    let check = correction_check (marks_in c.args.marks.marks.now) (corrections_in c.args.corrections.now) CorrectionMark in
    rw (← c.correction_count-n.ensures) (first_is check.test (λ i r h p. search rules) c.first_where.ensures)

price : (c : After-first_where-2) → let cs = corrections_in c.args.corrections.now in
    c.first_where-2.result ≡ first (correction_check (marks_in c.args.marks.marks.now) cs CorrectionPrice).test (length cs)
price c =
    let check = correction_check (marks_in c.args.marks.marks.now) (corrections_in c.args.corrections.now) CorrectionPrice in
    rw (← c.correction_count-n.ensures) (first_is check.test (λ i r h p. search rules) c.first_where-2.ensures)

pub returns-in_err-refuse : goal.returns-in_err-refuse
returns-in_err-refuse c =
    let at = goal.at.returns-in_err-refuse c in
    let w = c.args.wanted in
    handed_on _ c.in_err-refuse.field-0.0 c.from_residual.ensures.1 ∙ decides w 9 _ c.in_err-refuse.ensures (missing at.After-first_where)

pub returns-in_err-refuse-2 : goal.returns-in_err-refuse-2
returns-in_err-refuse-2 c =
    let at = goal.at.returns-in_err-refuse-2 c in
    let w = c.args.wanted in
    goes_on w 9 c.in_ok-refuse.ensures (missing at.After-first_where)
    (handed_on _ c.in_err-refuse-2.field-0.0 c.from_residual-in_err-refuse-2.ensures.1 ∙ decides w 10 _ c.in_err-refuse-2.ensures (price at.After-first_where-2))

pub returns : goal.returns
returns c =
    let at = goal.at.returns c in
    let w = c.args.wanted in
    goes_on w 9 c.in_ok-refuse.ensures (missing at.After-first_where)
    (goes_on w 10 c.in_ok-refuse-2.ensures (price at.After-first_where-2)
    (c.refuse-3.ensures))
