use Rattle.std.proofs.Common.{◌≡◌, length, refl, arith, length-set}
use Rattle.dayfile.specs.Records.{marks_in, corrections_in}
use Rattle.settlement.proofs.HighestNumbered.{standing_none, standing_same, standing_taken, standing_kept, standing_final}
use Rattle.settlement.proofs.prices.finals.Goals as goal
use Rattle.settlement.proofs.prices.finals.Goals.{then-m-n+then-number-m, else-m-n, else-m-n-via-then-m-n+else-number-m, else-m-n-via-else-m-n}

pub loop-k-init : goal.loop-k-init
loop-k-init c =
    let n : c.mark_count-n.result ≡ length (marks_in c.args.marks.bytes.now) = c.mark_count-n.ensures in
    (refl, standing_none (marks_in c.args.marks.bytes.now) (corrections_in c.args.corrections.now) (omega arith) (rw n c.todays.ensures))

pub loop-k-preserved : goal.loop-k-preserved
loop-k-preserved c =
    let ms = marks_in c.args.marks.bytes.now in
    let cs = corrections_in c.args.corrections.now in
    let at = c.loop-k in
    let e = c.correction_at-c.ensures in
    elim c.if-m-n.branch [
      | then-m-n+then-number-m w ↦
          rw (w.price-is, w.number-is) (
            simp length-set at.invariant.0,
            standing_taken ms cs at.k e w.if-m-n.true at.invariant.1 (omega arith) (omega arith) w.if-number-m.true,
          )
      | else-m-n w ↦
          rw (w.price-is, w.number-is) (
            at.invariant.0,
            elim w.else-m-n.branch [
              | else-m-n-via-then-m-n+else-number-m v ↦ standing_kept ms cs at.k e v.if-m-n.true at.invariant.1 v.if-number-m.false
              | else-m-n-via-else-m-n v ↦ standing_same ms cs at.k e v.if-m-n.false at.invariant.1
            ],
          )
    ]

pub returns : goal.returns
returns c =
    let n : c.mark_count-n.result ≡ length (marks_in c.args.marks.bytes.now) = c.mark_count-n.ensures in
    rw n at (standing_final _ _ c.loop-k.invariant.1 (omega arith))
