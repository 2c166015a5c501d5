-- Each check by the first mark that fails it.
use Rattle.std.proofs.Common.{◌≡◌, length, ◌∙◌, rules}
use Rattle.dayfile.specs.Records.{marks_in}
use Rattle.checks.specs.Marks.{mark_check, MarkCode, MarkDate, MarkLimit, MarkTick}
use Rattle.numbers.specs.Folds.{first}
use Rattle.checks.proofs.Deciding.{handed_on, decides, goes_on, first_faulty}
use Rattle.checks.proofs.marks.decide.Goals.{After-first_where, After-first_where-2, After-first_where-3, After-first_where-4}
use Rattle.checks.proofs.marks.decide.Goals as goal

unlisted : (c : After-first_where) → let ms = marks_in c.args.marks.now in c.first_where.result ≡ first (mark_check ms MarkCode).test (length ms)
unlisted c = rw (← c.mark_count-n.ensures) (first_faulty (marks_in c.args.marks.now) MarkCode (λ i r h p. search rules) c.first_where.ensures)

undated : (c : After-first_where-2) → let ms = marks_in c.args.marks.now in c.first_where-2.result ≡ first (mark_check ms MarkDate).test (length ms)
undated c = rw (← c.mark_count-n.ensures) (first_faulty (marks_in c.args.marks.now) MarkDate (λ i r h p. search rules) c.first_where-2.ensures)

high : (c : After-first_where-3) → let ms = marks_in c.args.marks.now in c.first_where-3.result ≡ first (mark_check ms MarkLimit).test (length ms)
high c = rw (← c.mark_count-n.ensures) (first_faulty (marks_in c.args.marks.now) MarkLimit (λ i r h p. search rules) c.first_where-3.ensures)

off : (c : After-first_where-4) → let ms = marks_in c.args.marks.now in c.first_where-4.result ≡ first (mark_check ms MarkTick).test (length ms)
off c = rw (← c.mark_count-n.ensures) (first_faulty (marks_in c.args.marks.now) MarkTick (λ i r h p. search rules) c.first_where-4.ensures)

pub returns-in_err-refuse : goal.returns-in_err-refuse
returns-in_err-refuse c =
    let at = goal.at.returns-in_err-refuse c in
    let w = c.args.wanted in
    handed_on _ c.in_err-refuse.field-0.0 c.from_residual.ensures.1 ∙ decides w 4 _ c.in_err-refuse.ensures (unlisted at.After-first_where)

pub returns-in_err-refuse-2 : goal.returns-in_err-refuse-2
returns-in_err-refuse-2 c =
    let at = goal.at.returns-in_err-refuse-2 c in
    let w = c.args.wanted in
    goes_on w 4 c.in_ok-refuse.ensures (unlisted at.After-first_where)
    (handed_on _ c.in_err-refuse-2.field-0.0 c.from_residual-in_err-refuse-2.ensures.1 ∙ decides w 5 _ c.in_err-refuse-2.ensures (undated at.After-first_where-2))

pub returns-in_err-refuse-3 : goal.returns-in_err-refuse-3
returns-in_err-refuse-3 c =
    let at = goal.at.returns-in_err-refuse-3 c in
    let w = c.args.wanted in
    goes_on w 4 c.in_ok-refuse.ensures (unlisted at.After-first_where)
    (goes_on w 5 c.in_ok-refuse-2.ensures (undated at.After-first_where-2)
    (handed_on _ c.in_err-refuse-3.field-0.0 c.from_residual-in_err-refuse-3.ensures.1 ∙ decides w 6 _ c.in_err-refuse-3.ensures (high at.After-first_where-3)))

pub returns-in_err-refuse-4 : goal.returns-in_err-refuse-4
returns-in_err-refuse-4 c =
    let at = goal.at.returns-in_err-refuse-4 c in
    let w = c.args.wanted in
    goes_on w 4 c.in_ok-refuse.ensures (unlisted at.After-first_where)
    (goes_on w 5 c.in_ok-refuse-2.ensures (undated at.After-first_where-2)
    (goes_on w 6 c.in_ok-refuse-3.ensures (high at.After-first_where-3)
    (handed_on _ c.in_err-refuse-4.field-0.0 c.from_residual-in_err-refuse-4.ensures.1 ∙ decides w 7 _ c.in_err-refuse-4.ensures (off at.After-first_where-4))))

pub returns : goal.returns
returns c =
    let at = goal.at.returns c in
    let w = c.args.wanted in
    goes_on w 4 c.in_ok-refuse.ensures (unlisted at.After-first_where)
    (goes_on w 5 c.in_ok-refuse-2.ensures (undated at.After-first_where-2)
    (goes_on w 6 c.in_ok-refuse-3.ensures (high at.After-first_where-3)
    (goes_on w 7 c.in_ok-refuse-4.ensures (off at.After-first_where-4)
    (c.refuse-5.ensures))))
