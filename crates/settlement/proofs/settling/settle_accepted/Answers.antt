-- With the array of all changes the amounts written are the plan's (`paid-is`), and a currency's sum of amounts is its total by net lots
-- (`sum_is`).
use Rattle.std.proofs.Common.{◌∙◌}
use Rattle.products.specs.declared.table.Currency.TheVariants.{Aud, Nzd}
use Rattle.dayfile.specs.Records.{marks_in, corrections_in}
use Rattle.settlement.specs.Prices.{final_of}
use Rattle.settlement.proofs.Changes.{bounded_as}
use Rattle.settlement.proofs.Accepted.{payable, named}
use Rattle.settlement.proofs.Plans.{settled_by}
use Rattle.settlement.proofs.Totals.{sum_is, paid-is}
use Rattle.settlement.proofs.settling.settle_accepted.Goals as goal

pub pay-sums-requires : goal.pay-sums-requires
pay-sums-requires c =
    let ms = marks_in c.args.marks.now in
    let passing = c.requires.0.lists_pass in
    (((payable _ passing, named _ passing), bounded_as ms (final_of ms (corrections_in c.args.corrections.now)) c.work_all.ensures), c.requires.1)

pub returns : goal.returns
returns c =
    let passing = c.requires.0 in
    let acc = passing.lists_pass in
    let q = c.work_all.ensures in
    let e = c.pay-sums.ensures in
    record {
      answer = settled_by c.position_count.ensures (e.aud ∙ rw q (sum_is _ acc Aud)) (e.nzd ∙ rw q (sum_is _ acc Nzd)) passing.counted;
      written = e.written ∙ rw q (paid-is _ acc _);
    }
