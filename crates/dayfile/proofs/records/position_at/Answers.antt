use mathlib.Core.Path.{ap, ◌∙◌}
use Rattle.dayfile.specs.Records.{signed_position}
use Rattle.dayfile.proofs.Fields.{as_signed_position}
use Rattle.dayfile.proofs.records.position_at.Goals as goal

pub returns : goal.returns
returns c =
    let e = c.from.ensures in e ∙ ap signed_position c.raw_position_at.ensures ∙ as_signed_position c.args.s.now c.args.i
