-- Each check by the first position that fails it.
use Rattle.std.proofs.Common.{◌≡◌, length, ◌∙◌, rules}
use Rattle.dayfile.specs.Records.{marks_in, positions_in}
use Rattle.checks.specs.Positions.{position_check, PositionMark, PositionLots}
use Rattle.numbers.specs.Folds.{first}
use Rattle.numbers.proofs.Searches.{first_is}
use Rattle.checks.proofs.Deciding.{handed_on, decides, goes_on}
use Rattle.checks.proofs.positions.decide.Goals.{After-first_where, After-first_where-2}
use Rattle.checks.proofs.positions.decide.Goals as goal

missing : (c : After-first_where) → let ps = positions_in c.args.positions.now in
    c.first_where.result ≡ first (position_check (marks_in c.args.marks.bytes.now) ps PositionMark).test (length ps)
missing c =
    let check = position_check (marks_in c.args.marks.bytes.now) (positions_in c.args.positions.now) PositionMark in
    rw (← c.position_count-n.ensures) (first_is check.test (λ i r h p. search rules) c.first_where.ensures)

lots : (c : After-first_where-2) → let ps = positions_in c.args.positions.now in
    c.first_where-2.result ≡ first (position_check (marks_in c.args.marks.bytes.now) ps PositionLots).test (length ps)
lots c =
    let check = position_check (marks_in c.args.marks.bytes.now) (positions_in c.args.positions.now) PositionLots in
    rw (← c.position_count-n.ensures) (first_is check.test (λ i r h p. search rules) c.first_where-2.ensures)

pub returns-in_err-refuse : goal.returns-in_err-refuse
returns-in_err-refuse c =
    handed_on _ c.in_err-refuse.field-0.0 c.from_residual.ensures.1 ∙ decides c.args.wanted 12 _ c.in_err-refuse.ensures (missing (goal.at.returns-in_err-refuse c).After-first_where)

pub returns-in_err-refuse-2 : goal.returns-in_err-refuse-2
returns-in_err-refuse-2 c =
    let at = goal.at.returns-in_err-refuse-2 c in
    let w = c.args.wanted in
    goes_on w 12 c.in_ok-refuse.ensures (missing at.After-first_where) (handed_on _ c.in_err-refuse-2.field-0.0 c.from_residual-in_err-refuse-2.ensures.1 ∙ decides w 13 _ c.in_err-refuse-2.ensures (lots at.After-first_where-2))

pub returns : goal.returns
returns c =
    let at = goal.at.returns c in
    let w = c.args.wanted in
    goes_on w 12 c.in_ok-refuse.ensures (missing at.After-first_where) (goes_on w 13 c.in_ok-refuse-2.ensures (lots at.After-first_where-2) c.refuse-3.ensures)
