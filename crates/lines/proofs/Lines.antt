-- A line is its fields, with a space between each two, and the line's end.
use Rattle.std.proofs.Common.{◌≡◌, refl}
use Rattle.text.specs.Line.{line_of, refused_file_line}
use Rattle.lines.specs.declared.line.Line.{Line}
use Rattle.lines.specs.declared.line.Line.TheVariants.{RefusedFile, Handover, RefusedHandover, Question, RefusedQuestion}
use Rattle.lines.specs.Line.{line_text, handover_line, refused_handover_line, question_line, refused_question_line}
use Rattle.lines.specs.Parts.{fields}

pub line_fields : (l : Line) → line_text l ≡ line_of (fields l)
unfolding refused_file_line handover_line refused_handover_line question_line refused_question_line
line_fields (RefusedFile refusal place) = refl
line_fields (Handover number giver taker counts) = refl
line_fields (RefusedHandover giver taker refusal) = refl
line_fields (Question first second relation) = refl
line_fields (RefusedQuestion first second refusal) = refl
