use Rattle.std.proofs.Common.{add-one, refl, arith}
use Rattle.std.proofs.lemmas.List.{set_split}
use Rattle.text.specs.Cursor.{put}
use Rattle.text.proofs.cursor.CursorSink.put_byte.Goals as goal

pub returns-then-self : goal.returns-then-self
unfolding put
returns-then-self c =
    λ room. record { same = refl; bytes = rw add-one (set_split c.args.self.now.out.now c.args.self.now.at c.args.byte (omega arith)); end = refl; fits = omega (arith, room) }

pub returns-else-self : goal.returns-else-self
returns-else-self c = λ room. absurd (omega (arith, room))
