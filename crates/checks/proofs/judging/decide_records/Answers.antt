-- The first section that decides does so for the checks over all records; the marks leave the ticks that the corrections are looked at by.
use Rattle.std.proofs.Common.{sym, ap, ◌∙◌, rules}
use Rattle.checks.specs.Judging.{lists_of_records}
use Rattle.faults.specs.Faults.{said}
use Rattle.checks.proofs.Deciding.{handed_on}
use Rattle.checks.proofs.Judgements.{decides, goes_on, by_sections}
use Rattle.checks.proofs.judging.decide_records.Goals as goal

pub returns-in_err-decide_marks : goal.returns-in_err-decide_marks
returns-in_err-decide_marks c =
    let a = c.args in
    record {
      decision = handed_on _ c.in_err-decide_marks.field-0.0 c.from_residual.ensures.1 ∙ decides _ c.in_err-decide_marks.ensures.0 ∙ by_sections (lists_of_records a.records) a.wanted;
      resent = search rules;
    }

pub returns-in_err-of_corrections : goal.returns-in_err-of_corrections
returns-in_err-of_corrections c =
    let a = c.args in
    let refused = sym (ap said c.in_err-of_corrections.was) ∙ c.decide_corrections-of_corrections.ensures.0 in
    record {
      decision =
          handed_on _ c.in_err-of_corrections.field-0.0 c.from_residual-in_err-of_corrections.ensures.1 ∙ goes_on c.in_ok-decide_marks.ensures.0 (decides _ refused)
          ∙ by_sections (lists_of_records a.records) a.wanted;
      resent = search rules;
    }

pub returns-in_err-decide_positions : goal.returns-in_err-decide_positions
returns-in_err-decide_positions c =
    let a = c.args in
    let passed = sym (ap said c.in_ok-of_corrections.was) ∙ c.decide_corrections-of_corrections.ensures.0 in
    record {
      decision =
          handed_on _ c.in_err-decide_positions.field-0.0 c.from_residual-in_err-decide_positions.ensures.1 ∙ goes_on c.in_ok-decide_marks.ensures.0 (goes_on passed c.in_err-decide_positions.ensures)
          ∙ by_sections (lists_of_records a.records) a.wanted;
      resent = search rules;
    }

pub returns : goal.returns
returns c =
    let a = c.args in
    let passed = sym (ap said c.in_ok-of_corrections.was) ∙ c.decide_corrections-of_corrections.ensures.0 in
    record {
      decision =
          goes_on c.in_ok-decide_marks.ensures.0 (goes_on passed c.in_ok-decide_positions.ensures)
          ∙ by_sections (lists_of_records a.records) a.wanted;
      resent = c.decide_corrections-of_corrections.ensures.1;
    }
