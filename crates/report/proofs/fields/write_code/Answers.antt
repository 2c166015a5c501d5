use mathlib.Core.List.{[], ◌∷◌}
use Rattle.text.proofs.Writing.{fitted_writes}
use Rattle.report.proofs.fields.write_code.Goals as goal

pub returns : goal.returns
returns c = fitted_writes (_ ∷ _ ∷ _ ∷ []) c.write_text.ensures
