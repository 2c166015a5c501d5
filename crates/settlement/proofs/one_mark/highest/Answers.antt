use Rattle.std.proofs.Common.{refl}
use Rattle.dayfile.specs.Records.{corrections_in}
use Rattle.settlement.specs.Prices.{highest_of}
use Rattle.settlement.proofs.OneMark.{one_more}
use Rattle.settlement.proofs.one_mark.highest.Goals as goal

pub loop-k-init : goal.loop-k-init
unfolding highest_of
loop-k-init c = refl

pub loop-k-preserved : goal.loop-k-preserved
loop-k-preserved c = one_more (corrections_in c.args.corrections.now) c.args.m c.loop-k.k c.loop-k.invariant c.correction_at.ensures c.after-d.ensures
