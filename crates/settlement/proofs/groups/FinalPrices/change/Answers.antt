-- No value is above 500,000,000 cents, so that `difference` may be asked for the two values of the mark.
use mathlib.Core.Path.{refl, ◌∙◌}
use Rattle.dayfile.specs.Records.{marks_in}
use Rattle.numbers.proofs.Signed.{back}
use Rattle.settlement.specs.Groups.{last_of}
use Rattle.settlement.proofs.Changes.{change_by}
use Rattle.settlement.proofs.Pricing.{by_value_or_zero}
use Rattle.settlement.proofs.groups.FinalPrices.change.Goals as goal

pub difference-requires : goal.difference-requires
difference-requires c = ((by_value_or_zero _ _ c.value_or_zero-last.ensures).1, (by_value_or_zero _ _ c.value_or_zero-previous.ensures).1)

pub returns : goal.returns
returns c =
    let a = c.args in
    change_by (marks_in a.self.marks.bytes.now) (last_of a.self.last.now) a.i (back c.difference.result c.difference.type_inv ∙ c.difference.ensures)
    (by_value_or_zero _ _ c.value_or_zero-last.ensures).0 (by_value_or_zero _ _ c.value_or_zero-previous.ensures).0 refl c.mark_at-m.ensures
