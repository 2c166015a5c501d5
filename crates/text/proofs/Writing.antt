-- The laws of writing text into a lent buffer.
use mathlib.Core.Path.{◌≡◌, refl, sym, ap, ap₂, ◌∙◌}
use mathlib.Core.List.{List, [], ◌∷◌, ◌++◌, append_assoc, append-nil}
use Prim.Native.Nat.{ℕ, zero, suc, ◌+◌, ◌*◌, ◌-◌, ◌≤◌, ◌<◌}
use mathlib.Core.Logic.{⊎_elim}
use native.Mathlib.Nat.{not-suc-le-zero, zero-add, eq-or-lt_of_le, le_of_suc-le-suc}
use native.Mathlib.Numerals.{add-one}
use native.Mathlib.Omega.{arith}
use borrow.Author.Tests.{le-leb, lt-leb}
use lib.ListN.{length, length-set, get_or, take, drop, set, length-append, length-take, length-drop, drop_of_length-le}
use lib.Seq.{sets, sets-eq, drop_at, drop-drop, take-append-le, drop-append-le, drop-append-add, drop-cons, set_at, set_split, take_all, take-length, length-take-le}
use borrow.Rule.Slice.PartMut.{mid_of, put_mid, same_len_mid}
use Rattle.text.specs.Writing.{over, Wrote, Writes, fitted, texts}

-- ---- a text and what is written after it

-- what is written into the part from k on, to the buffer's end, and covers what of s stands there
then_over : (s t out : List ℕ) (k : ℕ) {now mid : List ℕ} → k ≤ length s → length s ≤ k + length t → now ≡ over s out → mid ≡ over t (mid_of k (length now - k) now)
    → put_mid k (length now - k) now mid ≡ over (take k s ++ t) out
then_over s t out k {now} {mid} g h p q =
    let r : List ℕ = drop k now in
    let n : length r ≤ length now - k = rw (length-drop k now) (omega arith) in
    let m : mid ≡ over t r = q ∙ ap (over t) (take_all (length now - k) r n) in
    let z : drop (length now - k) r ≡ [] = drop_of_length-le r n in
    let e : k + length t ≡ length s + (k + length t - length s) = omega arith in
    let f : length s + (k + length t - length s) ≡ length (take k s ++ t) = simp length-append (omega (arith, length-take-le k s g)) in
    let o : drop (length t) r ≡ drop (length (take k s ++ t)) out =
    drop-drop (length t) k now ∙ ap₂ (λ x y. drop x y) e p ∙ drop-append-add s (drop (length s) out) _ ∙ drop-drop _ (length s) out ∙ ap (λ x. drop x out) f in
    ap₂ (λ x y. x ++ y) (ap (take k) p ∙ take-append-le k s _ g) (ap₂ (λ x y. x ++ y) m z ∙ append-nil (over t r)) ∙ sym (append_assoc (take k s) t (drop (length t) r))
    ∙ ap (λ x. take k s ++ t ++ x) o

-- a buffer keeps its length
pub wrote_length : {s out after : List ℕ} {n : ℕ} → Wrote s n out after → length after ≡ length out
wrote_length {s} {out} w = ap length w.written ∙ simp (length-append, length-drop) (omega (arith, w.within, w.count))

length_mid : (a : ℕ) (l : List ℕ) → length (mid_of a (length l - a) l) ≡ length l - a
length_mid a l = simp (length-take, length-drop) (omega arith)

-- a text, and another written over its end into the part that is lent from k on
pub wrote_over : {s t out now mid : List ℕ} {a b : ℕ} (k : ℕ) → k ≤ a → a ≤ k + length t → Wrote s a out now → Wrote t b (mid_of k (length now - k) now) mid
    → Wrote (take k s ++ t) (k + b) out (put_mid k (length now - k) now mid)
wrote_over {s} {t} {out} {now} {mid} {a} {b} k g h p q =
    record {
      within = omega (arith, p.within, q.within, wrote_length p, length_mid k now);
      count = ap (λ x. k + x) q.count ∙ simp length-append (omega (arith, length-take-le k s (omega (arith, p.count))));
      written = then_over s t out k (omega (arith, p.count)) (omega (arith, p.count)) p.written q.written;
    }

-- a text, and another written into the part that is lent after it, are the one text of both
pub wrote_then : {s t out now mid : List ℕ} {a b : ℕ} → Wrote s a out now → Wrote t b (mid_of a (length now - a) now) mid
    → Wrote (s ++ t) (a + b) out (put_mid a (length now - a) now mid)
wrote_then {s} {a = a} p q = rw (take_all a s (omega (arith, p.count))) at (wrote_over a (omega arith) (omega arith) p q)

-- a byte stored after a text
pub wrote_then_byte : {s out now : List ℕ} {a : ℕ} (b : ℕ) → length s < length out → Wrote s a out now → Wrote (s ++ (b ∷ [])) (a + 1) out (set now a b)
wrote_then_byte {s} {out} {now} {a} b h p =
    let r : List ℕ = drop (suc (length s)) out in
    let e : suc (length s) ≡ length (s ++ (b ∷ [])) = omega (arith, length-append s (b ∷ [])) in
    let n : now ≡ s ++ get_or out (length s) b ∷ r = p.written ∙ ap (λ l. s ++ l) (drop-cons out (length s) b h) in
    record {
      within = omega (arith, p.count);
      count = simp length-append (omega (arith, p.count));
      written =
          ap (λ l. set l a b) n ∙ set_at s (get_or out (length s) b) r b a (sym p.count) ∙ sym (append_assoc s (b ∷ []) r)
          ∙ ap (λ k. (s ++ (b ∷ [])) ++ drop k out) e;
    }

-- the last byte of a text may be stored first
pub over_last : (s : List ℕ) (b : ℕ) (out : List ℕ) → length s < length out → over s (set out (length s) b) ≡ over (s ++ (b ∷ [])) out
over_last s b out h =
    let k : ℕ = length s in
    let e : suc k ≡ length (s ++ (b ∷ [])) = omega (arith, length-append s (b ∷ [])) in
    ap (λ l. s ++ drop k l) (set_split out k b h) ∙ ap (λ l. s ++ l) (drop_at (take k out) (b ∷ drop (suc k) out) k (length-take-le k out (omega arith)))
    ∙ sym (append_assoc s (b ∷ []) (drop (suc k) out)) ∙ ap (λ m. (s ++ (b ∷ [])) ++ drop m out) e

pub over_two : (s : List ℕ) (a b : ℕ) (out : List ℕ) {i : ℕ} → i ≡ length s + 1 → i < length out
    → over s (set (set out i b) (i - 1) a) ≡ over (s ++ (a ∷ b ∷ [])) out
over_two s a b out {i} e h =
    let k : length (s ++ (a ∷ [])) ≡ length s + 1 = length-append s (a ∷ []) in
    let j : i - 1 ≡ length s = omega arith in
    let m : i ≡ length (s ++ (a ∷ [])) = omega arith in
    rw (j, m)
    (over_last s a (set out (length (s ++ (a ∷ []))) b) (simp length-set (omega arith)) ∙ over_last (s ++ (a ∷ [])) b out (omega arith)
    ∙ ap (λ x. over x out) (append_assoc s (a ∷ []) (b ∷ [])))

-- a first byte that is overwritten
pub set_first : (out : List ℕ) (a b : ℕ) → 0 < length out → set (set out 0 a) 0 b ≡ over (b ∷ []) out
set_first [] a b h = absurd (not-suc-le-zero h)
set_first (x ∷ out) a b h = refl

-- nothing written
pub wrote_none : (out : List ℕ) → Wrote [] 0 out out
wrote_none out = record { within = omega arith; count = refl; written = refl }

-- the first byte
pub wrote_byte : (b : ℕ) (out : List ℕ) → 0 < length out → Wrote (b ∷ []) 1 out (set out 0 b)
wrote_byte b out h = wrote_then_byte b h (wrote_none out)

-- a text, with what stands after it up to a place
pub wrote_padded : {s now : List ℕ} {n : ℕ} (p q : List ℕ) → length s ≤ length p → Wrote s n (p ++ q) now → Wrote (over s p) (length p) (p ++ q) now
wrote_padded {s} p q h w =
    let l : length p ≡ length (over s p) = simp (length-append, length-drop) (omega arith) in
    record {
      within = simp length-append (omega arith);
      count = l;
      written =
          w.written ∙ ap (λ x. s ++ x) (drop-append-le (length s) p q h) ∙ sym (append_assoc s (drop (length s) p) q)
          ∙ ap (λ x. over s p ++ x) (sym (drop_at p q (length (over s p)) l));
    }

-- byte after byte
pub wrote_stores : (s out : List ℕ) → length s ≤ length out → Wrote s (length s) out (sets out 0 s)
wrote_stores s out h =
    record { within = h; count = refl; written = sets-eq s out 0 (omega arith) ∙ ap (λ k. s ++ drop k out) (zero-add (length s)) }

-- all at once
pub wrote_copy : (s out : List ℕ) {copy : List ℕ} → length s ≤ length out → copy ≡ s → Wrote s (length s) out (copy ++ drop (length s) out)
wrote_copy s out h e = record { within = h; count = refl; written = ap (λ x. x ++ drop (length s) out) e }

-- byte by byte: the first i bytes are the text's, and in the end all are
pub copied : (s out : List ℕ) {i : ℕ} {now : List ℕ} → length s ≤ length out → now ≡ take i s ++ drop i out → i ≡ length s → Wrote s (length s) out now
copied s out f e q = record { within = f; count = refl; written = e ∙ rw (q, take-length s) }

-- ---- a text that a buffer has room for

pub fitted-is : (s out : List ℕ) → length s ≤ length out → fitted s out ≡ s
unfolding fitted
fitted-is s out h = rw (le-leb _ _ h)

pub fitted_none : (s out : List ℕ) → length out < length s → fitted s out ≡ []
unfolding fitted
fitted_none s out h = rw (lt-leb _ _ h)

pub wrote_fitted : {s out after : List ℕ} {n : ℕ} → length s ≤ length out → Wrote s n out after → Wrote (fitted s out) n out after
wrote_fitted {s} {out} h w = rw (fitted-is s out h) w

pub wrote_no_room : (s out : List ℕ) → length out < length s → Wrote (fitted s out) 0 out out
wrote_no_room s out h = rw (fitted_none s out h) (wrote_none out)

-- ---- writers of several parts

-- a text that is written where it fits
pub fitted_writes : (s : List ℕ) {out after : List ℕ} {n : ℕ} → Wrote (fitted s out) n out after → Writes s n out after
fitted_writes s {out} {after} {n} w =
    record { within = w.within; kept = wrote_length w; whole = λ h. rw (fitted-is s out h) at w }

pub wrote_writes : {s out after : List ℕ} {n : ℕ} → Wrote s n out after → Writes s n out after
wrote_writes w = record { within = w.within; kept = wrote_length w; whole = λ h. w }

pub no_room_writes : (s out : List ℕ) → length out < length s → Writes s 0 out out
no_room_writes s out h = fitted_writes s (wrote_no_room s out h)

-- a text, and another written over its end into the part that is lent from k on
pub writes_over : {s t out now mid : List ℕ} {a b : ℕ} (k : ℕ) → k ≤ a → a ≤ k + length t → Wrote s a out now → Writes t b (mid_of k (length now - k) now) mid
    → Writes (take k s ++ t) (k + b) out (put_mid k (length now - k) now mid)
writes_over {s} {t} {out} {now} {mid} k g h p q =
    let m : length (mid_of k (length now - k) now) ≡ length now - k = length_mid k now in
    let l : length now ≡ length out = wrote_length p in
    record {
      within = omega (arith, p.within, q.within);
      kept = same_len_mid k (length now - k) now mid q.kept ∙ l;
      whole = λ z. wrote_over k g h p
          (q.whole (omega (arith, m, p.count, length-take-le k s (omega (arith, p.count)), simp length-append at z)));
    }

-- a text, and another written into the part that is lent after it
pub writes_then : {s t out now mid : List ℕ} {a b : ℕ} → Writes s a out now → Writes t b (mid_of a (length now - a) now) mid
    → Writes (s ++ t) (a + b) out (put_mid a (length now - a) now mid)
writes_then {s} {t} {out} {now} {mid} {a} {b} p q =
    let m : length (mid_of a (length now - a) now) ≡ length now - a = length_mid a now in
    record {
      within = omega (arith, p.within, p.kept, q.within, m);
      kept = same_len_mid a (length now - a) now mid q.kept ∙ p.kept;
      whole = λ h. let e : length s + length t ≤ length out = rw (length-append s t) at h in
          let w = p.whole (omega arith) in wrote_then w (q.whole (omega (arith, m, p.kept, w.count)));
    }

pub writes_none : (out : List ℕ) → Writes [] 0 out out
writes_none out = record { within = omega arith; kept = refl; whole = λ h. wrote_none out }

pub writes_as : {s t out after : List ℕ} {n : ℕ} → s ≡ t → Writes s n out after → Writes t n out after
writes_as e w = rw (← e) w

-- ---- several texts, one after the other

texts-more : (f : ℕ → List ℕ) (i : ℕ) → texts f (i + 1) ≡ texts f i ++ f i
unfolding texts
texts-more f i = rw add-one

-- one text more
pub writes_more : (f : ℕ → List ℕ) (i : ℕ) {out now mid : List ℕ} {a b : ℕ} → Writes (texts f i) a out now → Writes (f i) b (mid_of a (length now - a) now) mid
    → Writes (texts f (i + 1)) (a + b) out (put_mid a (length now - a) now mid)
writes_more f i p q = rw (texts-more f i) (writes_then p q)

pub texts-same : (f g : ℕ → List ℕ) (n : ℕ) → ((i : ℕ) → i < n → f i ≡ g i) → texts f n ≡ texts g n
unfolding texts
texts-same f g zero h = refl
texts-same f g (suc n) h = rw (texts-same f g n (λ i l. h i (omega arith)), h n (omega arith))

-- n texts of w bytes each
pub texts_sized : (f : ℕ → List ℕ) (w n : ℕ) → ((i : ℕ) → length (f i) ≡ w) → length (texts f n) ≡ w * n
unfolding texts
texts_sized f w zero h = omega arith
texts_sized f w (suc n) h = simp length-append (omega (arith, texts_sized f w n h, h n))

-- the text with index j stands w * j bytes from the first
pub texts-at : (f : ℕ → List ℕ) (w n j : ℕ) (r : List ℕ) → ((i : ℕ) → length (f i) ≡ w) → j < n
    → drop (w * j) (texts f n ++ r) ≡ f j ++ drop (w * suc j) (texts f n ++ r)
unfolding texts
texts-at f w zero j r h l = absurd (not-suc-le-zero l)
texts-at f w (suc n) j r h l =
    rw append_assoc
    (⊎_elim
    (λ (e : j ≡ n).
    rw (e, drop_at (texts f n) (f n ++ r) (w * n) (texts_sized f w n h))
    (ap (λ x. f n ++ x) (sym (rw (append_assoc (texts f n) (f n) r) at (drop_at (texts f n ++ f n) r (w * suc n) (texts_sized f w (suc n) h))))))
    (λ (k : j < n). texts-at f w n j (f n ++ r) h k) (eq-or-lt_of_le (le_of_suc-le-suc l)))

-- n texts of at most b bytes each
pub texts-length : (f : ℕ → List ℕ) (n b : ℕ) → ((i : ℕ) → i < n → length (f i) ≤ b) → length (texts f n) ≤ n * b
unfolding texts
texts-length f zero b h = omega arith
texts-length f (suc n) b h =
    omega (arith, length-append (texts f n) (f n), texts-length f n b (λ i l. h i (omega arith)), h n (omega arith))
