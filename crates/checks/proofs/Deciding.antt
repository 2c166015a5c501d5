-- What the code finds in a section is what its checks decide.
use Rattle.std.proofs.Common.{◌≡◌, ℕ, ◌+◌, ◌<◌, cond, Bool, true, false, ◌||◌, List, length, sym, refl, ap, ◌∙◌, arith, Option, Some, None, Result, is_some}
use Rattle.std.specs.Result.{IsErrAnd}
use Rattle.std.proofs.lemmas.Result.{err_from_is_err_and}
use Rattle.numbers.specs.Folds.{repeating, first, or_else}
use Rattle.numbers.specs.Checks.{decision_of, decision_for, finding_of}
use Rattle.numbers.specs.declared.wanted.Wanted.{Wanted}
use Rattle.numbers.specs.Searches.{IsFirst}
use Rattle.numbers.proofs.Searches.{first_is, first_next, clear_first, some_clear, found_nothing, or_none}
use Rattle.numbers.proofs.Checks.{unmet_for, one_decides, one_passes}
use Rattle.dayfile.specs.Limits.{Limits}
use Rattle.dayfile.specs.Records.{mark_at, correction_at, position_at}
use Rattle.dayfile.specs.declared.records.Mark.{Mark}
use Rattle.dayfile.specs.declared.records.Correction.{Correction}
use Rattle.dayfile.specs.declared.records.Position.{Position}
use Rattle.checks.specs.Marks.{contract_pair, mark_check, MarkCheck, MarkCode, MarkDate, MarkLimit, MarkTick, MarkRepeated, mark_checks}
use Rattle.checks.specs.Corrections.{clash_pair, CorrectionCheck, CorrectionMark, CorrectionPrice, CorrectionClash, correction_checks}
use Rattle.checks.specs.Corrections.{Answer, too_many_corrections, corrections_judged, resent_of}
use Rattle.checks.specs.Positions.{holding_pair, PositionCheck, PositionMark, PositionLots, PositionRepeated, position_checks}
use Rattle.checks.specs.Table.{listed}
use Rattle.checks.specs.Faults.{mark_faults, any_mark_fault, some_mark_fault, mark_decision, or_next}
use Rattle.checks.specs.Faults.{correction_faults, any_correction_fault, some_correction_fault, correction_decision}
use Rattle.checks.specs.Faults.{position_faults, any_position_fault, some_position_fault, position_decision}
use Rattle.numbers.specs.Order.{pick, sought, Decision, Met, Unmet}
use Rattle.checks.specs.declared.marks.MarkFaults.{MarkFaults}
use Rattle.faults.specs.Faults.{number_of, at_start, said}
use Rattle.faults.specs.declared.fault.Fault.TheVariants.{AboveLimits}
use Rattle.faults.specs.declared.refusal.Refusal.{Refusal}

-- ---- one check after the other

-- a refusal that is handed on says what it said
pub handed_on : {T : Type 0} (x : Result T Refusal) (r : Refusal) → IsErrAnd x (λ y. y ≡ r) → said x ≡ Met (number_of r.fault) r.index
handed_on x r h = let p = err_from_is_err_and x h in rw (p.1, p.2) refl

-- a check that found a record decides, whatever later ones say
pub decides : (w : Wanted) (k : ℕ) {o f : Option ℕ} {n i : ℕ} (d : Decision) → Met n i ≡ or_next w k o Unmet → o ≡ f → Met n i ≡ or_next w k f d
decides w k {f = f} {n} {i} d e q = go (sought w k f) (rw q at e)
  where
    go : (s : Option ℕ) → Met n i ≡ pick s k Unmet → Met n i ≡ pick s k d
    go (Some i) e = e
    go None e = absurd (let z : ◌≡◌ {A = ℕ} 0 1 = cc in omega arith)

-- one that found none leaves it to them
pub goes_on : (w : Wanted) (k : ℕ) {o f : Option ℕ} {d e : Decision} → Unmet ≡ or_next w k o Unmet → o ≡ f → d ≡ e → d ≡ or_next w k f e
goes_on w k {f = f} {e = e} h q g = g ∙ go (sought w k f) (rw q at h)
  where
    go : (s : Option ℕ) → Unmet ≡ pick s k Unmet → e ≡ pick s k e
    go (Some i) h = absurd (let z : ◌≡◌ {A = ℕ} 0 1 = cc in omega arith)
    go None h = refl

-- what a mark's faults say to a check of one mark; 8, which looks at two, asks its own test
abbrev pub fault_of : (ms : List Mark) → MarkCheck → ℕ → MarkFaults → Bool
fault_of ms MarkCode i faults = faults.code
fault_of ms MarkDate i faults = faults.date
fault_of ms MarkLimit i faults = faults.high
fault_of ms MarkTick i faults = faults.off
fault_of ms MarkRepeated i faults = (mark_check ms MarkRepeated).test i

shows : (ms : List Mark) (c : MarkCheck) (i : ℕ) {faults : MarkFaults} → faults ≡ mark_faults (mark_at ms i) → fault_of ms c i faults ≡ (mark_check ms c).test i
unfolding listed
shows ms c i q = ap (fault_of ms c i) q ∙ go c
  where
    go : (c : MarkCheck) → fault_of ms c i (mark_faults (mark_at ms i)) ≡ (mark_check ms c).test i
    go MarkCode = refl
    go MarkDate = refl
    go MarkLimit = refl
    go MarkTick = refl
    go MarkRepeated = refl

-- one mark more: what the search for the first mark with a check's fault has found among i marks, and finds among i + 1
pub mark-more : (ms : List Mark) (c : MarkCheck) (i : ℕ) {o r : Option ℕ} {faults : MarkFaults} {b : Bool} → o ≡ first (mark_check ms c).test i
    → faults ≡ mark_faults (mark_at ms i) → b ≡ fault_of ms c i faults → r ≡ or_else o (cond b (Some i) None) → r ≡ first (mark_check ms c).test (i + 1)
mark-more ms c i p q k e = first_next (mark_check ms c).test i p (k ∙ shows ms c i q) e

-- and what it finds, where its test of each mark is the fault in question
pub first_faulty : (ms : List Mark) (c : MarkCheck) {P : ℕ → Bool → Type 0} {n : ℕ} → ((i : ℕ) (r : Bool) → i < n → P i r → r ≡ fault_of ms c i (mark_faults (mark_at ms i)))
    → {o : Option ℕ} → IsFirst P n o → o ≡ first (mark_check ms c).test n
first_faulty ms c agrees f = first_is (mark_check ms c).test (λ i r h p. agrees i r h p ∙ shows ms c i refl) f

pub marks_decided : (ms : List Mark) (w : Wanted) {o : Option ℕ} {d : Decision} → o ≡ first (repeating (contract_pair ms)) (length ms)
    → d ≡ mark_decision ms o w → d ≡ decision_for (mark_checks ms) w
unfolding decision_for
marks_decided ms w q e = e ∙ rw q refl

pub corrections_decided : (ms : List Mark) (cs : List Correction) (w : Wanted) {o : Option ℕ} {d : Decision}
    → o ≡ first (repeating (clash_pair cs)) (length cs) → d ≡ correction_decision ms cs o w → d ≡ decision_for (correction_checks ms cs) w
unfolding decision_for
corrections_decided ms cs w q e = e ∙ rw q refl

pub positions_decided : (ms : List Mark) (ps : List Position) (w : Wanted) {o : Option ℕ} {d : Decision}
    → o ≡ first (repeating (holding_pair ps)) (length ps) → d ≡ position_decision ms ps o w → d ≡ decision_for (position_checks ms ps) w
unfolding decision_for
positions_decided ms ps w q e = e ∙ rw q refl

-- ---- nothing is wrong

module _ (ms : List Mark) (none : some_mark_fault ms ≡ false) where
  mark_clear : (i : ℕ) → i < length ms → let f = mark_faults (mark_at ms i) in (f.code ≡ false) × (f.date ≡ false) × (f.high ≡ false) × (f.off ≡ false)
  mark_clear i h =
      let f = mark_faults (mark_at ms i) in
      let p = or_none (f.code || f.date || f.high) f.off (some_clear (λ i. any_mark_fault (mark_faults (mark_at ms i))) (length ms) i none h) in
      let q = or_none (f.code || f.date) f.high p.0 in
      let r = or_none f.code f.date q.0 in
      (r.0, r.1, q.1, p.1)

  pub marks_clear : (w : Wanted) → first (repeating (contract_pair ms)) (length ms) ≡ None → decision_for (mark_checks ms) w ≡ Unmet
  marks_clear w alone = unmet_for (mark_checks ms) w (λ c m. clear c)
    where
      clear : (c : MarkCheck) → finding_of (mark_checks ms) c ≡ None
      clear MarkCode = clear_first _ _ (λ i h. (mark_clear i h).0)
      clear MarkDate = clear_first _ _ (λ i h. (mark_clear i h).1)
      clear MarkLimit = clear_first _ _ (λ i h. (mark_clear i h).2)
      clear MarkTick = clear_first _ _ (λ i h. (mark_clear i h).3)
      clear MarkRepeated = alone

module _ (ms : List Mark) (cs : List Correction) (none : some_correction_fault ms cs ≡ false) where
  correction_clear : (i : ℕ) → i < length cs → let f = correction_faults ms (correction_at cs i) in (f.missing ≡ false) × (f.price ≡ false)
  correction_clear i h = or_none _ _ (some_clear (λ i. any_correction_fault (correction_faults ms (correction_at cs i))) (length cs) i none h)

  pub corrections_clear : (w : Wanted) → first (repeating (clash_pair cs)) (length cs) ≡ None → decision_for (correction_checks ms cs) w ≡ Unmet
  corrections_clear w apart = unmet_for (correction_checks ms cs) w (λ c m. clear c)
    where
      clear : (c : CorrectionCheck) → finding_of (correction_checks ms cs) c ≡ None
      clear CorrectionMark = clear_first _ _ (λ i h. (correction_clear i h).0)
      clear CorrectionPrice = clear_first _ _ (λ i h. (correction_clear i h).1)
      clear CorrectionClash = apart

module _ (ms : List Mark) (ps : List Position) (none : some_position_fault ms ps ≡ false) where
  position_clear : (i : ℕ) → i < length ps → let f = position_faults ms (position_at ps i) in (f.missing ≡ false) × (f.lots ≡ false)
  position_clear i h = or_none _ _ (some_clear (λ i. any_position_fault (position_faults ms (position_at ps i))) (length ps) i none h)

  pub positions_clear : (w : Wanted) → first (repeating (holding_pair ps)) (length ps) ≡ None → decision_for (position_checks ms ps) w ≡ Unmet
  positions_clear w alone = unmet_for (position_checks ms ps) w (λ c m. clear c)
    where
      clear : (c : PositionCheck) → finding_of (position_checks ms ps) c ≡ None
      clear PositionMark = clear_first _ _ (λ i h. (position_clear i h).0)
      clear PositionLots = clear_first _ _ (λ i h. (position_clear i h).1)
      clear PositionRepeated = alone

-- what the test for anything wrong says, where it says no
pub neither : {b a : Bool} {o : Option ℕ} → a ≡ is_some o → (b || a) ≡ false → (b ≡ false) × (o ≡ None)
neither {b} {a} {o} e p = let n = or_none b a p in (n.0, found_nothing o (sym e ∙ n.1))

-- ---- lists that stand in no file

-- more records than a file may have
pub above_limits : {r : Refusal} → at_start AboveLimits r → Met (number_of r.fault) r.index ≡ Met 2 0
above_limits e = rw e refl

module _ (l : Limits) (ms : List Mark) (cs : List Correction) where
  answered : {d e : Decision} {n m : ℕ} → d ≡ e → n ≡ m → ◌≡◌ {A = Answer} (record { decision = d; resent = n }) (record { decision = e; resent = m })
  answered p q = cc

  pub too_many_corrections_lem : (too_many_corrections l ms cs).test 0 ≡ true → ◌≡◌ {A = Answer} (record { decision = Met 2 0; resent = 0 }) (corrections_judged l ms cs)
  unfolding corrections_judged
  too_many_corrections_lem p = answered (one_decides (too_many_corrections l ms cs) (correction_checks ms cs) p) (rw p)

  pub not_many_corrections : (too_many_corrections l ms cs).test 0 ≡ false → {r : Answer} → r.decision ≡ decision_of (correction_checks ms cs) → r.resent ≡ resent_of cs
      → r ≡ corrections_judged l ms cs
  unfolding corrections_judged
  not_many_corrections p d e = answered (one_passes (too_many_corrections l ms cs) (correction_checks ms cs) p d) (rw p e)
