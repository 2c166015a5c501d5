-- By what the lookup of the mark's code found; without a product the tick is 1, and no price is off it.
use Rattle.std.proofs.Common.{sym, ap, ◌∙◌}
use Rattle.checks.proofs.Faults.{faults_in, faults_found}
use Rattle.checks.proofs.marks.faults.Goals as goal

pub returns-in-Some : goal.returns-in-Some
returns-in-Some c =
    let m = c.args.m in
    c.faults_by.ensures ∙ ap (faults_in m) (sym c.in-Some.is ∙ c.lookup.ensures) ∙ faults_found m

pub returns-in-None : goal.returns-in-None
returns-in-None c =
    let m = c.args.m in
    rw c.is_high.ensures (ap (faults_in m) (sym c.in-None.is ∙ c.lookup.ensures)) ∙ faults_found m
