-- The two labelled numbers, one after the other, are the fields of the refusal's line (`refusal_line_lem`).
use mathlib.Core.Path.{◌∙◌}
use Rattle.report.proofs.Composing.{refusal_line_lem}
use Rattle.text.proofs.Writing.{writes_then, writes_as}
use Rattle.report.proofs.answers.write_refusal.Goals as goal

pub returns : goal.returns
returns c =
    rw (← (c.from-number.ensures ∙ c.from.ensures))
    (writes_as (refusal_line_lem _ _) (writes_then c.write_labelled-index_at.ensures c.write_labelled.ensures))
