-- A mark that is priced, by whether a correction decides: 1 and its number, or 0 twice.
use Rattle.std.specs.Prelude.{Option, Some, None, MatchOption}
use mathlib.Core.Path.{◌≡◌, refl, ap, sym}
use Prim.Native.Nat.{ℕ}
use mir.Syntax.{w64}
use mir.Facts.{to_z-of_z}
use mir.Val.{SFits, bool_byte}
use borrow.Author.Rules.{rules}
use Rattle.std.specs.Option.{is_some}
use Rattle.settlement.specs.OneMark.{said, highest_by}
use Rattle.citronreef.specs.Numbers.{corrects, number_of, mark_outcome_of}
use Rattle.citronreef.proofs.MarkOutcomeFromResultMarkPricesRefusal.from.Goals as goal

corrects-by : (o : Option ℕ) (q : ℕ) → bool_byte (is_some o) ≡ corrects (highest_by o q)
corrects-by (Some n) q = refl
corrects-by None q = refl

number_by : (o : Option ℕ) (q r : ℕ) → MatchOption o (r ≡ 0) (λ x. r ≡ x) → r ≡ number_of (highest_by o q)
number_by (Some n) q r h = h
number_by None q r h = h

pub returns-in-Ok : goal.returns-in-Ok
returns-in-Ok c =
    let p = c.in-Ok.prices in
    let fit : SFits w64 p.change = search rules in
    rw (
      c.from.ensures,
      c.from-in-Ok.ensures,
      c.from-in-Ok-2.ensures,
      c.is_some.ensures,
      corrects-by p.corrected_by p.last,
      number_by p.corrected_by p.last c.map_or.result c.map_or.ensures,
      to_z-of_z {w = w64} {z = p.change} fit,
    ) (sym (ap (λ s. mark_outcome_of (said s)) c.in-Ok.is))
