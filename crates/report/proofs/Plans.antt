-- From the plan that a file is settled by to the lines of its sheet.
use mathlib.Core.Path.{◌≡◌, refl, sym, ap, ◌∙◌}
use mathlib.Core.Bool.{Bool, true, false, cond}
use Rattle.std.specs.Prelude.{Result}
use mathlib.Core.List.{List, []}
use Prim.Native.Nat.{ℕ, ◌≤◌}
use native.Mathlib.Omega.{arith}
use borrow.Author.Tests.{ltb-false}
use lib.Dec.{ltb}
use lib.IntN.{ℤ, pos}
use lib.ListN.{length, get_or, take, drop}
use lib.Seq.{length-take-le}
use Rattle.std.proofs.lemmas.List.{get_or-take}
use Rattle.text.specs.Writing.{texts}
use Rattle.text.proofs.Writing.{texts-same}
use Rattle.dayfile.specs.Limits.{file_limits}
use Rattle.dayfile.specs.Records.{Lists, mark_at, position_at, marks_in, positions_in}
use Rattle.dayfile.specs.Layout.{counts_of, lists_in, lists_of_file}
use Rattle.dayfile.specs.Opening.{opened_of}
use Rattle.numbers.specs.Checks.{decision_of}
use Rattle.checks.specs.Judging.{record_checks, file_checks}
use Rattle.settlement.specs.Settling.{Plan, accept, refuse, plan_of, said, answer_of, amounts_after, amount_of, change_in}
use Rattle.dayfile.specs.declared.file.DayFile.{DayFile}
use Rattle.dayfile.specs.Opening.{Opened}
use Rattle.dayfile.specs.Opening.{File, Refused}
use Rattle.settlement.specs.declared.settling.Settled.{Settled}
use Rattle.faults.specs.declared.refusal.Refusal.{Refusal}
use Rattle.dayfile.proofs.Refusals.{opened_decides}
use Rattle.checks.proofs.Passed.{passed_parts, mark_in_lem}
use Rattle.settlement.proofs.Plans.{plan_from, plan_decided, refused_plan}
use Rattle.numbers.proofs.Tables.{entry}
use Rattle.numbers.specs.Integers.{entry_of}
use Rattle.report.specs.Lines.{position_line, line_at}
use Rattle.report.specs.Sheet.{positions_text}
use Rattle.report.specs.Writers.{Paid, Named, count_of, lines_in}
use Rattle.numbers.specs.Order.{Decision, Met, Unmet}

-- the lines that the writer puts down are those of the plan, their amounts stand in the slice, and each names a mark
pub record Lined (ls : Lists) (plan : Plan) (n : ℕ) (a : List ℤ) : Type 0 where
  pub room : n ≤ length a
  pub named : Named ls.marks ls.positions n
  pub lines : lines_in ls a n ≡ positions_text plan

module _ (ls : Lists) (a : List ℤ) {n : ℕ} where
  lined_refused : {k i : ℕ} → Paid (refuse k i) n a → Lined ls (refuse k i) n a
  unfolding positions_text texts
  lined_refused p = record { room = omega (arith, p.count); named = λ i h. absurd (omega (arith, p.count)); lines = rw p.count }

  lined_accepted : decision_of (record_checks ls) ≡ Unmet → length ls.positions ≤ length a → Paid (accept ls) n a → Lined ls (accept ls) n a
  unfolding positions_text
  lined_accepted e h p =
      record {
        room = omega (arith, p.count);
        named = λ i k. mark_in_lem ls e i (omega (arith, p.count));
        lines = ap (lines_in ls a) p.count ∙ texts-same _ _ (length ls.positions)
            (λ i k. ap (position_line (position_at ls.positions i).account (mark_at ls.marks (position_at ls.positions i).mark))
            (ap (λ x. get_or x i (pos 0)) p.written ∙ entry (amount_of ls.positions (change_in ls)) (length ls.positions) i (drop (length ls.positions) p.before) (pos 0) k));
      }

  by_room : decision_of (record_checks ls) ≡ Unmet → (t : Bool) → ltb (length a) (length ls.positions) ≡ t → Paid (cond t (refuse 14 0) (accept ls)) n a
      → Lined ls (cond t (refuse 14 0) (accept ls)) n a
  by_room v true e p = lined_refused p
  by_room v false e p = lined_accepted v (ltb-false _ _ e) p

-- a file that does not open has no lines
pub refused_lines : (s : List ℕ) (places : ℕ) {o : Opened} {k : ℕ} → o ≡ opened_of file_limits s → o ≡ Refused k → positions_text (plan_of file_limits s places) ≡ []
unfolding positions_text
refused_lines s places e f = rw (refused_plan file_limits s places (sym e ∙ f))

-- of a file that opens, the lines with the slice's amounts are those of the plan
pub settled_lines : (s : List ℕ) (a : List ℤ) {n : ℕ} {o : Opened} {d : DayFile} → o ≡ opened_of file_limits s → o ≡ File d → Paid (plan_of file_limits s (length a)) n a
    → Lined (lists_in s d) (plan_of file_limits s (length a)) n a
settled_lines s a {n} {d = d} e f p =
    let same : counts_of s ≡ d = (opened_decides file_limits s (sym e ∙ f)).1 in
    let q = plan_decided file_limits s (length a) in
    rw (← same, q) (by_decision (decision_of (file_checks file_limits s)) refl (rw q at p))
  where
    by_decision : (x : Decision) → decision_of (file_checks file_limits s) ≡ x → Paid (plan_from s (length a) x) n a → Lined (lists_of_file s) (plan_from s (length a) x) n a
    by_decision (Met k i) v h = lined_refused (lists_of_file s) a h
    by_decision Unmet v h = by_room (lists_of_file s) a (passed_parts file_limits s v).1 (ltb (length a) (length (lists_of_file s).positions)) refl h

-- the lines of two sections, with the first n amounts of a slice, are those of their lists
pub lines_by : (a : List ℤ) (n : ℕ) {m m' p p' : List ℕ} → n ≤ length a → m ≡ m' → p ≡ p'
    → texts (line_at (marks_in m) (positions_in p) (entry_of (take n a))) (length (take n a)) ≡ texts (line_at (marks_in m') (positions_in p') (entry_of a)) n
lines_by a n {m' = m} {p' = p} h e f =
    rw (e, f, length-take-le n a h)
    (texts-same _ _ n (λ i k. ap (position_line (position_at (positions_in p) i).account (mark_at (marks_in m) (position_at (positions_in p) i).mark))
    (get_or-take n a i (pos 0) k)))

-- the answer and the slice of a settlement carry out the plan
pub paid : (s : List ℕ) (before now : List ℤ) (r : Result Settled Refusal) → length now ≡ length before → said r ≡ answer_of file_limits s (length before)
    → now ≡ amounts_after file_limits s before → Paid (plan_of file_limits s (length now)) (count_of (said r)) now
unfolding answer_of amounts_after
paid s before now r e a w = rw e (record { before = before; written = w; count = ap count_of a })
