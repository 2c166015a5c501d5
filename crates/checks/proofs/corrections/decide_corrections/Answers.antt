-- Where no correction has a fault and none clashes no check finds anything; else the first corrections found decide in the order.
-- Corrections have one key exactly where they bear one number, so that the array has the last earlier one with each correction's number.
use Rattle.std.proofs.Common.{replicate, sym, refl, ◌∙◌}
use Rattle.dayfile.specs.Limits.{file_limits}
use Rattle.dayfile.specs.Records.{marks_in, corrections_in}
use Rattle.checks.proofs.Keyed.{last_numbers}
use Rattle.checks.proofs.Deciding.{corrections_decided, corrections_clear, neither}
use Rattle.checks.proofs.corrections.decide_corrections.Goals as goal

pub first_clash-clash-requires : goal.first_clash-clash-requires
first_clash-clash-requires c =
    last_numbers c.args.corrections.now c.requires (replicate file_limits.corrections 0) refl c.earlier.ensures

pub resent_count-resent-requires : goal.resent_count-resent-requires
resent_count-resent-requires c =
    last_numbers c.args.corrections.now c.requires (replicate file_limits.corrections 0) refl c.earlier.ensures

pub returns-then-bad-is_some : goal.returns-then-bad-is_some
returns-then-bad-is_some c =
    let a = c.args in (
      corrections_decided (marks_in a.marks.marks.now) (corrections_in a.corrections.now) _ c.first_clash-clash.ensures c.decide.ensures,
      c.resent_count-resent.ensures,
    )

pub returns : goal.returns
returns c =
    let a = c.args in
    let n = neither c.is_some.ensures c.if-bad-is_some.false in (
      sym (corrections_clear (marks_in a.marks.marks.now) (corrections_in a.corrections.now)
          (sym c.some_fault-bad.ensures ∙ n.0) _ (sym c.first_clash-clash.ensures ∙ n.1)),
      c.resent_count-resent.ensures,
    )
