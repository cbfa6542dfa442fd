-- The lines of the day sheet.
use Rattle.std.specs.Prelude.{ℕ, List, [], ◌∷◌, map, codes, decimal}
use Rattle.refusals.specs.Number.{number}
use Rattle.order.specs.declared.kinds.Relation.{Relation}
use Rattle.order.specs.Words.{relation_word}
use Rattle.text.specs.Line.{parted, line_of, refused_file_line}
use Rattle.lines.specs.declared.line.Line.{Line}
use Rattle.lines.specs.declared.line.Line.TheVariants.{RefusedFile, Handover, RefusedHandover, Question, RefusedQuestion}

-- counts in decimals, with a comma between each two
unfoldable pub commas : List ℕ → List ℕ
commas counts = parted 44 (map decimal counts)

-- a settled handover: its number, giver, taker and counts
unfoldable pub handover_line : ℕ → ℕ → ℕ → List ℕ → List ℕ
handover_line k giver taker counts = line_of (decimal k ∷ decimal giver ∷ decimal taker ∷ commas counts ∷ [])

-- a refused handover, by the refusal's number; it uses no number of its own
unfoldable pub refused_handover_line : ℕ → ℕ → ℕ → List ℕ
refused_handover_line giver taker n = line_of (codes "-" ∷ decimal giver ∷ decimal taker ∷ codes "refused" ∷ decimal n ∷ [])

-- a question: two handovers' numbers, and how the first stands to the second
unfoldable pub question_line : ℕ → ℕ → Relation → List ℕ
question_line a b relation = line_of (decimal a ∷ decimal b ∷ relation_word relation ∷ [])

-- a refused question, by the refusal's number
unfoldable pub refused_question_line : ℕ → ℕ → ℕ → List ℕ
refused_question_line a b n = line_of (decimal a ∷ decimal b ∷ codes "refused" ∷ decimal n ∷ [])

-- the bytes of a line of the day sheet
abbrev pub line_text : Line → List ℕ
line_text (RefusedFile refusal place) = refused_file_line (number refusal) place
line_text (Handover k giver taker counts) = handover_line k giver taker counts.now
line_text (RefusedHandover giver taker refusal) = refused_handover_line giver taker (number refusal)
line_text (Question first second relation) = question_line first second relation
line_text (RefusedQuestion first second refusal) = refused_question_line first second (number refusal)
