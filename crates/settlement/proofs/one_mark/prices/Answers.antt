-- The correction that decides, or today's price, gives the final price and with it the change (`mark-priced`).
use Rattle.std.proofs.Common.{◌≡◌, ℕ, ◌<◌, ◌∙◌, Option, Some, None, ap, arith, length, rules}
use Rattle.std.specs.Option.{option_map, MatchOption, IsSomeAnd}
use borrow.Author.Tests.{lt-leb}
use Rattle.numbers.proofs.Signed.{back}
use Rattle.dayfile.specs.Records.{marks_in, corrections_in}
use Rattle.dayfile.specs.declared.records.Correction.{Correction}
use Rattle.settlement.proofs.OneMark.{mark-priced}
use Rattle.settlement.proofs.one_mark.prices.Goals as goal

mapped : (P : Correction → ℕ → Type 0) (d : Option Correction) (n : Option ℕ) → ((x : Correction) (y : ℕ) → P x y → y ≡ x.number)
    → MatchOption d (n ≡ None) (λ x. IsSomeAnd n (P x)) → n ≡ option_map (λ (c : Correction). c.number) d
mapped P (Some c) (Some y) h m = ap Some (h c y m)
mapped P (Some c) None h m = absurd m
mapped P None n h m = m

pub returns : goal.returns
returns c =
    let a = c.args in
    let d = c.highest-decides.result in
    let h : a.m < length (marks_in a.marks.now) = omega (arith, c.mark_count.ensures, c.if-mark_count-m.false) in
    rw (lt-leb _ _ h)
    (mark-priced (marks_in a.marks.now) (corrections_in a.corrections.now) a.m d c.map.result c.mark_at-mark.ensures c.highest-decides.ensures
    (mapped _ d c.map.result (λ x y p. search rules) c.map.ensures.cases) c.last_price-last.ensures
    (back c.change_between.result c.change_between.type_inv ∙ c.change_between.ensures))
