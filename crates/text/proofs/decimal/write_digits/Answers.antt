use mathlib.Core.Path.{refl, sym, ◌∙◌}
use native.Mathlib.Omega.{arith}
use lib.ListN.{length-set}
use Rattle.text.proofs.Decimals.{some-digit}
use Rattle.text.proofs.Table.{left_two, by_length}
use Rattle.text.proofs.decimal.write_digits.Goals as goal

pub overflow_sub-i : goal.overflow_sub-i
overflow_sub-i c = omega (arith, some-digit c.args.n)

pub loop-rest-init : goal.loop-rest-init
loop-rest-init c = (refl, omega (arith, some-digit c.args.n), record { place = omega (arith, some-digit c.args.n); buffer = refl })

pub overflow_sub-out : goal.overflow_sub-out
overflow_sub-out c = omega (arith, (left_two c.loop-rest-test.true (omega arith) c.loop-rest.invariant.2).0)

pub overflow_sub-i-in-loop-rest : goal.overflow_sub-i-in-loop-rest
overflow_sub-i-in-loop-rest c = (left_two c.loop-rest-test.true (omega arith) c.loop-rest.invariant.2).0

pub loop-rest-preserved : goal.loop-rest-preserved
loop-rest-preserved c = (simp length-set c.loop-rest.invariant.0, omega arith, (left_two c.loop-rest-test.true (omega arith) c.loop-rest.invariant.2).1)

pub returns : goal.returns
returns c =
    record {
      within = c.requires.1;
      count = c.requires.0 ∙ sym (by_length _ _);
      written = c.write_first.ensures ∙ c.loop-rest.invariant.2.buffer;
    }
