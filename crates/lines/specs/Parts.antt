-- The fields in which the code adds a line.
use Rattle.std.specs.Prelude.{ℕ, List, [], ◌∷◌, codes, decimal}
use Rattle.refusals.specs.Number.{number}
use Rattle.text.specs.Line.{refused_fields}
use Rattle.order.specs.Words.{relation_word}
use Rattle.lines.specs.Line.{commas}
use Rattle.lines.specs.declared.line.Line.{Line}
use Rattle.lines.specs.declared.line.Line.TheVariants.{RefusedFile, Handover, RefusedHandover, Question, RefusedQuestion}

-- the fields of a line, which a space parts and the line's end follows
abbrev pub fields : Line → List (List ℕ)
fields (RefusedFile refusal place) = refused_fields (number refusal) place
fields (Handover k giver taker counts) = decimal k ∷ decimal giver ∷ decimal taker ∷ commas counts.now ∷ []
fields (RefusedHandover giver taker refusal) = codes "-" ∷ decimal giver ∷ decimal taker ∷ codes "refused" ∷ decimal (number refusal) ∷ []
fields (Question first second relation) = decimal first ∷ decimal second ∷ relation_word relation ∷ []
fields (RefusedQuestion first second refusal) = decimal first ∷ decimal second ∷ codes "refused" ∷ decimal (number refusal) ∷ []
