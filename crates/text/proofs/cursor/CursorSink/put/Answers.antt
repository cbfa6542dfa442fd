use Rattle.std.proofs.Common.{◌≡◌, ℕ, ◌+◌, ◌-◌, List, ◌++◌, length, take, drop, sym, refl, ap, ◌∙◌, arith}
use Rattle.std.proofs.lemmas.List.{drop-drop}
use borrow.Rule.Slice.PartMut.{put_mid}
use Rattle.text.specs.Cursor.{put}
use Rattle.text.proofs.cursor.CursorSink.put.Goals as goal

-- a part of the buffer, overwritten by a text of its length
put_part : (o : List ℕ) (i k : ℕ) (t : List ℕ) → length t ≡ k → put_mid i k o t ≡ put o i t
unfolding put
put_part o i k t e = ap (λ (l : List ℕ). take i o ++ (t ++ l)) (drop-drop k i o ∙ ap (λ (n : ℕ). drop (i + n) o) (sym e))

pub returns-then-text-self : goal.returns-then-text-self
returns-then-text-self c =
    let o = c.args.self.now.out.now in
    let i = c.args.self.now.at in
    let t = c.args.text.now in
    λ room. record {
      same = refl;
      bytes = ap (put_mid i ((i + length t) - i) o) c.copy_from_slice.ensures.after ∙ put_part o i ((i + length t) - i) t (omega arith);
      end = refl;
      fits = room;
    }

pub returns-else-text-self : goal.returns-else-text-self
returns-else-text-self c = λ room. absurd (omega arith)
