-- Text that is written into a caller's buffer.
use Rattle.std.specs.Prelude.{◌≡◌, ℕ, ◌+◌, ◌≤◌, List, [], ◌++◌, length, take, drop}
use Rattle.std.proofs.Common.{sym, refl, ap, ◌∙◌, add-zero, add_assoc, arith}
use Rattle.std.proofs.lemmas.List.{append_assoc, length-append, length-drop, length-take-le, take_at, drop_at, drop-drop, take-append-drop}
use Rattle.text.specs.Laws.{SinkLaws}
use Rattle.text.specs.declared.cursor.Cursor.{Cursor}

-- the buffer with the text written from place i on; every other place stays
unfoldable pub put : List ℕ → ℕ → List ℕ → List ℕ
put buffer i text = take i buffer ++ (text ++ drop (i + length text) buffer)

-- the buffer has n more places
abbrev pub Left : Cursor → ℕ → Type 0
Left c n = c.at + n ≤ length c.out.now

-- the text stands in the same buffer, after what was written before
pub record Wrote (before : Cursor) (text : List ℕ) (after : Cursor) : Type 0 where
  pub same : after.out.ghost_name ≡ before.out.ghost_name
  pub bytes : after.out.now ≡ put before.out.now before.at text
  pub end : after.at ≡ before.at + length text
  pub fits : after.at ≤ length before.out.now

pub length_put : (o : List ℕ) (i : ℕ) (t : List ℕ) → i + length t ≤ length o → length (put o i t) ≡ length o
unfolding put
length_put o i t h =
    let a : i ≤ length o = omega arith in
    simp (length-append, length-drop) (omega (arith, length-take-le i o a))

put_none : (o : List ℕ) (i : ℕ) → put o i [] ≡ o
unfolding put
put_none o i = rw add-zero (take-append-drop i o)

-- two texts, one after the other
put_put : (o : List ℕ) (i : ℕ) (t u : List ℕ) → i ≤ length o → put (put o i t) (i + length t) u ≡ put o i (t ++ u)
unfolding put
put_put o i t u h =
    let k : length (take i o ++ t) ≡ i + length t = simp length-append (omega (arith, length-take-le i o h)) in
    let e : take i o ++ (t ++ drop (i + length t) o) ≡ (take i o ++ t) ++ drop (i + length t) o = sym (append_assoc (take i o) t (drop (i + length t) o)) in
    let f : take (i + length t) (take i o ++ (t ++ drop (i + length t) o)) ≡ take i o ++ t = ap (take (i + length t)) e ∙ take_at (take i o ++ t) (drop (i + length t) o) (i + length t) k in
    let g : drop (i + length t) (take i o ++ (t ++ drop (i + length t) o)) ≡ drop (i + length t) o = ap (drop (i + length t)) e ∙ drop_at (take i o ++ t) (drop (i + length t) o) (i + length t) k in
    let m : drop ((i + length t) + length u) (take i o ++ (t ++ drop (i + length t) o)) ≡ drop (i + length (t ++ u)) o =
    sym (drop-drop (length u) (i + length t) (take i o ++ (t ++ drop (i + length t) o))) ∙ ap (drop (length u)) g ∙ drop-drop (length u) (i + length t) o
    ∙ ap (λ (n : ℕ). drop n o) (add_assoc i (length t) (length u) ∙ ap (λ (n : ℕ). i + n) (sym (length-append t u))) in
    rw (f, m) (simp append_assoc)

pub cursor_laws : SinkLaws Left Wrote
cursor_laws = record {
  none = λ x. record { same = refl; bytes = sym (put_none x.out.now x.at); end = sym (add-zero x.at); fits = x.within };
  more = λ x y z s t a b. record {
    same = b.same ∙ a.same;
    bytes = b.bytes ∙ ap (λ (o : List ℕ). put o y.at t) a.bytes ∙ ap (λ (i : ℕ). put (put x.out.now x.at s) i t) a.end ∙ put_put x.out.now x.at s t x.within;
    end = simp length-append (omega (arith, a.end, b.end));
    fits = omega (arith, b.fits, ap length a.bytes, length_put x.out.now x.at s (omega (arith, a.end, a.fits)));
  };
  room = λ x y t m n a r l. omega (arith, a.end, ap length a.bytes, length_put x.out.now x.at t (omega (arith, a.end, a.fits)));
}
