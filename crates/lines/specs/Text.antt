-- What a call that writes a text into a buffer replies and leaves there.
use Rattle.std.specs.Prelude.{ℕ, cond, List, length, Ok, Err, Result, nat_lt}
use Rattle.refusals.specs.declared.Refusal.{Refusal}
use Rattle.refusals.specs.declared.Refusal.TheVariants.{TooShort}
use Rattle.text.specs.Cursor.{put}

-- the reply to a text: its length, or that the buffer is shorter
abbrev pub text_reply : List ℕ → List ℕ → Result ℕ Refusal
text_reply buffer text = cond (nat_lt (length buffer) (length text)) (Err TooShort) (Ok (length text))

-- the buffer after the call: as it was where it is shorter than the text, else with the text at its start
abbrev pub text_after : List ℕ → List ℕ → List ℕ
text_after buffer text = cond (nat_lt (length buffer) (length text)) buffer (put buffer 0 text)
