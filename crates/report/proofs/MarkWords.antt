-- The words of a mark: how they are made, and what a line takes from them.
use mathlib.Core.Path.{◌≡◌, refl, sym, ap, ◌∙◌}
use mathlib.Core.List.{List, [], ◌∷◌, ◌++◌, append_assoc, append-nil}
use Prim.Native.Nat.{ℕ, suc, ◌+◌, ◌*◌, ◌-◌, ◌≤◌, ◌<◌}
use native.Mathlib.Omega.{arith}
use lib.IntN.{ℤ}
use lib.ListN.{length, take, drop, set, replicate, length-append, length-take, length-drop, drop_of_length-le}
use lib.Seq.{length-take-le, take-take, take_at, drop_at, drop-drop, get_or_at, get_or-drop}
use borrow.Rule.Slice.PartMut.{mid_of, put_mid}
use Rattle.text.specs.Decimal.{decimal}
use Rattle.text.specs.Writing.{texts, fitted, Wrote, Writes}
use Rattle.text.proofs.Decimals.{decimal-length, some-digit, some-signed}
use Rattle.text.proofs.Writing.{wrote_padded, wrote_then, wrote_then_byte, wrote_length, fitted-is, no_room_writes, writes_over, texts_sized, texts-at}
use Rattle.numbers.specs.Bytes.{Bytes}
use Rattle.products.specs.Products.{currency_of}
use Rattle.dayfile.specs.Records.{marks_in, mark_at}
use Rattle.dayfile.specs.declared.records.Mark.{Mark}
use Rattle.report.specs.Lines.{space, ended, position_line}
use Rattle.report.specs.Writers.{contract_fields, line_end, padded, packed, words_at, length_in, fields_in, end_in, Words, money_in, rest_in, line_with}
use Rattle.report.proofs.Composing.{position_line_lem}
use Rattle.report.proofs.Lengths.{mark_read, letters_length}

-- ---- fields and a line's end in 16 bytes

module _ (f e : List ℕ) (small : length f ≤ 11) (four : length e ≡ 4) where
  front : length (padded f) ≡ 11
  front = simp (length-append, length-drop) (omega arith)

  before_last : length (padded f ++ e) ≡ 15
  before_last = rw (length-append (padded f) e) (omega (arith, front))

  pub packed-length : length (packed f e) ≡ 16
  unfolding packed
  packed-length = rw (length-append (padded f ++ e) (length f ∷ [])) (omega (arith, before_last))

  -- written one after the other into zeros
  pub packed-made : {k b : ℕ} {now mid : List ℕ} (n : ℕ) → n ≡ length now - 11 → Writes f k (replicate 16 0) now → Writes e b (mid_of 11 n now) mid
      → set (put_mid 11 n now mid) 15 k ≡ packed f e
  unfolding packed
  packed-made {k} {b} {now} {mid} n h v w =
      let u = v.whole (omega arith) in
      let p = wrote_padded (replicate 11 0) (replicate 5 0) small u in
      let l = wrote_length p in
      let q = w.whole (simp (length-take, length-drop) (omega arith)) in
      let t = wrote_then_byte k (omega (arith, before_last)) (wrote_then p (rw h at q)) in
      let i : 15 ≡ 11 + b = omega (arith, q.count) in
      let s : List ℕ = padded f ++ e ++ (k ∷ []) in
      let g : 16 ≤ length s = rw (length-append (padded f ++ e) (k ∷ [])) (omega (arith, before_last)) in
      rw h (ap (λ x. set (put_mid 11 (length now - 11) now mid) x k) i)
      ∙ t.written ∙ ap (λ x. s ++ x) (drop_of_length-le (replicate 16 0) g) ∙ append-nil s ∙ ap (λ x. padded f ++ e ++ (x ∷ [])) u.count

  -- and read again
  module _ (words rest : List ℕ) (at : ℕ) (here : drop at words ≡ packed f e ++ rest) where
    pub length-is : length_in words at ≡ length f
    unfolding packed
    length-is =
        sym (get_or-drop at words 15 0)
        ∙ rw (here, append_assoc (padded f ++ e) (length f ∷ []) rest)
        (get_or_at (padded f ++ e) (length f) rest 0 15 before_last)

    pub fields_are : fields_in words at ≡ f
    unfolding packed
    fields_are = rw (length-is, here) (simp append_assoc (take_at f _ (length f) refl))

    pub end_is : end_in words at ≡ e
    unfolding packed
    end_is =
        rw (← (drop-drop 11 at words), here, append_assoc (padded f ++ e) (length f ∷ []) rest, append_assoc (padded f) e (length f ∷ rest), drop_at (padded f) (e ++ (length f ∷ rest)) 11 front)
        (take_at e (length f ∷ rest) 4 four)

-- ---- the words of a mark

end-length : (m : Mark) → length (line_end m) ≡ 4
end-length m = simp length-append (omega (arith, letters_length (currency_of m.code)))

module _ (t : List ℕ) (bytes : Bytes t) where
  fields_length : (j : ℕ) → (7 ≤ length (contract_fields (mark_at (marks_in t) j))) × (length (contract_fields (mark_at (marks_in t) j)) ≤ 11)
  fields_length j =
      let m = mark_at (marks_in t) j in
      let r = mark_read t j bytes in
      let x : m.month < 256 = rw r.is (r.small 2) in
      let y : m.year < 256 = rw r.is (r.small 3) in
      let a = decimal-length 2 m.month (omega arith) in
      let b = decimal-length 2 m.year (omega arith) in
      let c = some-digit m.month in
      let d = some-digit m.year in
      (simp length-append (omega arith), simp length-append (omega arith))

  words_length : (j : ℕ) → length (words_at (marks_in t) j) ≡ 16
  words_length j = packed-length _ _ (fields_length j).1 (end-length (mark_at (marks_in t) j))

  pub words_made : (j : ℕ) {k b : ℕ} {now mid : List ℕ} (n : ℕ) → n ≡ length now - 11 → Writes (contract_fields (mark_at (marks_in t) j)) k (replicate 16 0) now
      → Writes (line_end (mark_at (marks_in t) j)) b (mid_of 11 n now) mid → set (put_mid 11 n now mid) 15 k ≡ words_at (marks_in t) j
  words_made j n e v w = packed-made _ _ (fields_length j).1 (end-length (mark_at (marks_in t) j)) n e v w

  -- where those of all marks were written, a line with the words at a mark's place is the mark's
  module _ {out words : List ℕ} {r : ℕ} (fits : 16 * length (marks_in t) ≤ length out) (made : Writes (texts (words_at (marks_in t)) (length (marks_in t))) r out words)
      (j : ℕ) (h : j < length (marks_in t)) where
    here : drop (16 * j) words ≡ words_at (marks_in t) j ++ drop (16 * suc j) words
    here =
        let w = made.whole (omega (arith, texts_sized (words_at (marks_in t)) 16 (length (marks_in t)) words_length)) in
        rw w.written (texts-at (words_at (marks_in t)) 16 (length (marks_in t)) j (drop (length (texts (words_at (marks_in t)) (length (marks_in t)))) out) words_length h)

    pub words_here : Words words (16 * j)
    words_here =
        let l = fields_length j in
        let e = length-is _ _ l.1 (end-length (mark_at (marks_in t) j)) words _ (16 * j) here in
        record { within = omega (arith, made.kept); least = omega arith; most = omega arith }

    pub line-here : (account : ℕ) (amount : ℤ) → line_with words (16 * j) account amount ≡ position_line account (mark_at (marks_in t) j) amount
    line-here account amount =
        let m = mark_at (marks_in t) j in
        let l = (fields_length j).1 in
        rw (fields_are _ _ l (end-length m) words _ (16 * j) here, end_is _ _ l (end-length m) words _ (16 * j) here)
        (sym (append_assoc (ended (decimal account) space) (contract_fields m) _) ∙ position_line_lem account m amount)

-- ---- what stands after the account: twelve bytes, of which the fields stay, and the amount over the others

module _ (words : List ℕ) (at : ℕ) (is : Words words at) (amount : ℤ) where
  fields_in_lem : length (fields_in words at) ≡ length_in words at
  fields_in_lem = length-take-le _ (drop at words) (rw (length-drop at words) (omega arith))

  money : 6 ≤ length (money_in words at amount)
  money =
      let e : length (end_in words at) ≡ 4 = length-take-le 4 (drop (at + 11) words) (rw (length-drop (at + 11) words) (omega arith)) in
      simp length-append (omega (arith, some-signed amount))

  pub no_room : (out : List ℕ) → length out < 12 → Writes (rest_in words at amount) 0 out out
  no_room out h =
      no_room_writes _ out (rw (length-append (fields_in words at) (money_in words at amount)) (omega (arith, fields_in_lem, money)))

  pub rest-written : {out now mid : List ℕ} {a b : ℕ} → 12 ≤ length out → Wrote (fitted (take 12 (drop at words)) out) a out now
      → Writes (money_in words at amount) b (mid_of (length_in words at) (length now - length_in words at) now) mid
      → Writes (rest_in words at amount) (length_in words at + b) out
      (put_mid (length_in words at) (length now - length_in words at) now mid)
  rest-written {out} h v w =
      let l : length (take 12 (drop at words)) ≡ 12 = length-take-le 12 (drop at words) (rw (length-drop at words) (omega arith)) in
      let u = rw (fitted-is (take 12 (drop at words)) out (omega arith)) at v in
      rw (take-take (length_in words at) 12 (drop at words) is.most) at (writes_over (length_in words at) (omega (arith, u.count)) (omega (arith, u.count, money)) u w)
