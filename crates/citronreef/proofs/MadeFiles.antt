-- Files that `citronreef_make` makes, settled by `citronreef_settle`.
use mathlib.Core.Path.{◌≡◌, subst, ap, ◌∙◌}
use mathlib.Core.List.{List}
use Prim.Native.Nat.{ℕ, ◌+◌, ◌*◌, ◌/◌, ◌≤◌}
use native.Mathlib.Omega.{arith}
use lib.IntN.{ℤ}
use lib.ListN.{length, take}
use Rattle.numbers.specs.Bytes.{bytes_of}
use Rattle.numbers.specs.Checks.{decision_of}
use Rattle.numbers.proofs.Sections.{size_is}
use Rattle.dayfile.specs.Limits.{file_limits}
use Rattle.dayfile.specs.Records.{correction_size, position_size, position_of, Lists, lists_of}
use Rattle.dayfile.specs.Layout.{counts_of, mark_bytes, position_bytes, lists_of_file}
use Rattle.dayfile.specs.declared.file.DayFile.{DayFile}
use Rattle.dayfile.proofs.Made.{made_lists}
use Rattle.dayfile.proofs.Opening.{opens}
use Rattle.checks.specs.Judging.{record_checks, judged_of}
use Rattle.checks.specs.Judging.{Passed}
use Rattle.checks.proofs.Refusals.{judged_passes}
use Rattle.checks.proofs.Passed.{passed_parts}
use Rattle.settlement.specs.Settling.{accept, totals, paid, plan_of, answer_of, amounts_after}
use Rattle.settlement.specs.Resend.{SentAgain, correction_records, Resent}
use Rattle.settlement.proofs.Accepted.{AcceptedFile, accepted_plan}
use Rattle.settlement.proofs.Resending.{still_accepted}
use Rattle.settlement.proofs.ResentMade.{with_corrections, counts, whole, few-counted, records_are, resent_made}
use Rattle.making.specs.Making.{made, buffer_after}
use Rattle.making.specs.Making.{answer_of as makerAnswerOf}
use Rattle.making.proofs.Planned.{Fitting}
use Rattle.making.proofs.Promises as promises
use Rattle.making.proofs.RoundTrip.{reads, makes, file_stands}
use Rattle.numbers.specs.Order.{Unmet}

-- ---- a made file is accepted

module _ (ms cs ps out : List ℕ) {n : ℕ} (e : makerAnswerOf file_limits ms cs ps (length out) ≡ made n) where
  abbrev file : List ℕ
  file = promises.file ms cs ps out e

  lists_are : lists_of_file file ≡ lists_of ms cs ps
  lists_are = let r = reads ms cs ps out e in rw (r.marks, r.corrections, r.positions)

  planned : (places : ℕ) → length ps / position_size ≤ places → plan_of file_limits file places ≡ accept (lists_of ms cs ps)
  planned places room =
      let r = reads ms cs ps out e in
      let (o, passed) = passed_parts file_limits file r.passed in
      let enough : length (lists_of_file file).positions ≤ places = rw (r.positions, size_is position_of position_size ps) room in
      accepted_plan file_limits file places (record { opens = (opens file_limits file o).0; passed = passed; room = enough }) ∙ ap accept lists_are

  -- With a place for each of its positions a made file is accepted: the answer and the amounts are those of the lists.
  pub made_settles : (a : List ℤ) → length ps / position_size ≤ length a
      → (answer_of file_limits file (length a) ≡ totals (lists_of ms cs ps)) × (amounts_after file_limits file a ≡ paid (lists_of ms cs ps) a)
  unfolding answer_of amounts_after
  made_settles a room = let plan = planned (length a) room in (rw plan, rw plan)

-- ---- corrections sent again

-- A file that passes checks 1 to 13 and 16, with copies of its corrections put anywhere into their list, within the limit, is brought into line
-- by the maker: from the file's marks, the corrections with the copies and the file's positions it makes the file sent again.
pub resent_makes : (f : List ℕ) (ds : List (List ℕ)) (copies : ℕ) (out : List ℕ) {c : DayFile} {resent : ℕ} → judged_of file_limits f ≡ Passed c resent
    → SentAgain (correction_records f) (correction_records f) ds copies → length ds ≤ file_limits.corrections → length f + correction_size * copies ≤ length out
    → let ms = mark_bytes f (counts_of f) in
    let ps = position_bytes f (counts_of f) in
    let g = take (length f + correction_size * copies) (buffer_after file_limits ms (bytes_of ds) ps out) in
    (makerAnswerOf file_limits ms (bytes_of ds) ps (length out) ≡ made (length f + correction_size * copies)) × Resent f g copies × (correction_records g ≡ ds)
resent_makes f ds copies out judged sent few room =
    let places : ℕ = length (lists_of_file f).positions in
    let (o, passed) = passed_parts file_limits f (judged_passes file_limits f judged) in
    let acc : AcceptedFile file_limits f places = record { opens = (opens file_limits f o).0; passed = passed; room = omega arith } in
    let g = with_corrections f ds in
    let r = resent_made f o ds sent few in
    let w = whole f o ds sent few in
    let again = still_accepted file_limits f g copies places places r acc (few-counted f o ds sent few) acc.room in
    let fits : Fitting (mark_bytes f (counts_of f)) (bytes_of ds) (position_bytes f (counts_of f)) (counts f o ds sent few) (length out) =
    record { whole = w; passed = subst (λ (ls : Lists). decision_of (record_checks ls) ≡ Unmet) (made_lists _ _ _ (counts f o ds sent few) w) again.passed; fits = rw r.file-length room } in
    let answer = rw r.file-length at (makes _ _ _ out fits).0 in
    let stands = file_stands file_limits _ _ _ out answer in
    (answer, rw stands r, rw stands (records_are f o ds sent few))
