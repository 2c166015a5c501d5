use Rattle.text.proofs.Decimals.{digits_from_one}
use Rattle.text.proofs.decimal.width.Goals as goal

pub returns : goal.returns
returns c = let p = c.ilog10.ensures in digits_from_one _ _ c.max.ensures p.power_le p.next_power_gt
