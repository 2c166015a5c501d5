-- The bytes of one read more stand behind those of the reads before it.
use Rattle.std.proofs.Common.{◌≡◌, ℕ, ◌+◌, ◌≤◌, List, ◌++◌, rules, length, take, sym, ap, ◌∙◌, subst, le_refl, drop_at, length-take-le}
use Rattle.std.proofs.lemmas.Slice.{take-put_mid_below}
use Rattle.std.specs.Io.KnownBytes.{Consumes}
use Rattle.std.proofs.KnownBytes.{Consumes-trans}
use borrow.Rule.Slice.PartMut.{put_mid, post_of}
use lib.Seq.{take-add, take-append-le}
use Rattle.sheet.proofs.input.read_file.Goals as goal

-- the first a + k elements of a list whose place a on was overwritten: the first a of before, and the first k that were written
taken_after : (a room k : ℕ) (xs ys : List ℕ) → a ≤ length xs → k ≤ length ys
    → take a xs ++ take k ys ≡ take (a + k) (put_mid a room xs ys)
taken_after a room k xs ys within fits =
    let after = put_mid a room xs ys in
    let front : take a after ≡ take a xs = take-put_mid_below _ _ _ _ _ (le_refl _) within in
    let part = ap (take k) (drop_at (take a xs) (ys ++ post_of a room xs) a (length-take-le a xs within)) ∙ take-append-le k ys (post_of a room xs) fits in
    ap (λ l. l ++ take k ys) (sym front) ∙ ap (λ l. take a after ++ l) (sym part) ∙ sym (take-add a k after)

pub loop-n-preserved : goal.loop-n-preserved
loop-n-preserved g c =
    let h = c.in_ok-k.ensures in (
      search rules,
      subst (Consumes _ _) (taken_after _ _ _ _ _ c.loop-n.invariant.0 h.count.0) (Consumes-trans _ _ _ _ _ c.loop-n.invariant.1 h.bytes.0),
    )
