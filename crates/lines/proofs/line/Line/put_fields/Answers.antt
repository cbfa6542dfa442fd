use Rattle.std.proofs.Common.{◌≡◌, ℕ, List, [], ◌∷◌, ◌++◌, codes, decimal, sym, ap, ◌∙◌, Bor}
use Rattle.std.specs.List.{concat}
use Rattle.std.proofs.lemmas.List.{append_assoc}
use Rattle.refusals.specs.Number.{number}
use Rattle.refusals.specs.declared.Refusal.{Refusal}
use Rattle.order.specs.declared.kinds.Relation.{Relation}
use Rattle.text.specs.Labelled.{labelled}
use Rattle.text.specs.Line.{parted}
use Rattle.text.proofs.Sinks.{takes_none, takes_more, takes_as}
use Rattle.lines.specs.declared.line.Line.{Line}
use Rattle.lines.specs.declared.line.Line.TheVariants.{Handover, RefusedHandover, Question, RefusedQuestion}
use Rattle.order.specs.Words.{relation_word}
use Rattle.lines.specs.Line.{commas}
use Rattle.lines.specs.Parts.{fields}
use Rattle.lines.proofs.line.Line.put_fields.Goals as goal

-- The parts in which each line is added, and that they make its fields.

abbrev stations : ℕ → ℕ → List ℕ
stations giver taker = (32 ∷ decimal giver) ++ (32 ∷ decimal taker)

abbrev handover : ℕ → ℕ → ℕ → List ℕ → List (List ℕ)
handover k giver taker counts = decimal k ∷ stations giver taker ∷ (32 ∷ []) ∷ commas counts ∷ []

handover_is : {l : Line} {k giver taker : ℕ} {counts : Bor (List ℕ)} → l ≡ Handover k giver taker counts → parted 32 (fields l) ≡ concat (handover k giver taker counts.now)
handover_is {k = k} {giver = giver} {taker = taker} {counts = counts} e =
    let parts : parted 32 (fields (Handover k giver taker counts)) ≡ concat (handover k giver taker counts.now) = simp append_assoc in
    ap (λ (l : Line). parted 32 (fields l)) e ∙ parts

abbrev refused_handover : ℕ → ℕ → ℕ → List (List ℕ)
refused_handover giver taker n = codes "-" ∷ stations giver taker ∷ labelled (codes " refused ") n ∷ []

refused_handover_is : {l : Line} {giver taker n : ℕ} {refusal : Refusal} → l ≡ RefusedHandover giver taker refusal → n ≡ number refusal
    → parted 32 (fields l) ≡ concat (refused_handover giver taker n)
unfolding labelled
refused_handover_is {giver = giver} {taker = taker} {refusal = refusal} e n =
    let parts : parted 32 (fields (RefusedHandover giver taker refusal)) ≡ concat (refused_handover giver taker (number refusal)) =
    ap (λ (t : List ℕ). 45 ∷ t) (sym (append_assoc (32 ∷ decimal giver) (32 ∷ decimal taker) (concat (labelled (codes " refused ") (number refusal) ∷ [])))) in
    ap (λ (l : Line). parted 32 (fields l)) e ∙ parts ∙ ap (λ (m : ℕ). concat (refused_handover giver taker m)) (sym n)

abbrev question : ℕ → ℕ → List ℕ → List (List ℕ)
question first second word = decimal first ∷ labelled (codes " ") second ∷ (32 ∷ []) ∷ word ∷ []

question_is : {l : Line} {first second : ℕ} {relation : Relation} {word : List ℕ} → l ≡ Question first second relation → word ≡ relation_word relation
    → parted 32 (fields l) ≡ concat (question first second word)
unfolding labelled
question_is {first = first} {second = second} e w = ap (λ (l : Line). parted 32 (fields l)) e ∙ ap (λ (t : List ℕ). concat (question first second t)) (sym w)

abbrev refused_question : ℕ → ℕ → ℕ → List (List ℕ)
refused_question first second n = decimal first ∷ labelled (codes " ") second ∷ labelled (codes " refused ") n ∷ []

refused_question_is : {l : Line} {first second n : ℕ} {refusal : Refusal} → l ≡ RefusedQuestion first second refusal → n ≡ number refusal
    → parted 32 (fields l) ≡ concat (refused_question first second n)
unfolding labelled
refused_question_is {first = first} {second = second} e n =
    ap (λ (l : Line). parted 32 (fields l)) e ∙ ap (λ (m : ℕ). concat (refused_question first second m)) (sym n)

-- After the last part the fields are there.

pub returns-in-Handover : goal.returns-in-Handover
returns-in-Handover g c =
    let laws = g.met.S.Sink.laws in
    takes_as laws (handover_is c.in-Handover.is)
    (takes_more laws c.put_number.ensures (takes_more laws c.put_stations.ensures (takes_more laws c.put.ensures (takes_more laws c.put_counts.ensures (takes_none laws _)))))

pub returns-in-RefusedHandover : goal.returns-in-RefusedHandover
returns-in-RefusedHandover g c =
    let laws = g.met.S.Sink.laws in
    takes_as laws (refused_handover_is c.in-RefusedHandover.is c.number.ensures.exact)
    (takes_more laws c.put-in-RefusedHandover.ensures (takes_more laws c.put_stations-in-RefusedHandover.ensures (takes_more laws c.put_labelled.ensures (takes_none laws _))))

pub returns-in-Question : goal.returns-in-Question
returns-in-Question g c =
    let laws = g.met.S.Sink.laws in
    takes_as laws (question_is c.in-Question.is (c.as_bytes.ensures.value ∙ c.word.ensures))
    (takes_more laws c.put_number-in-Question.ensures
    (takes_more laws c.put_labelled-in-Question.ensures (takes_more laws c.put-in-Question.ensures (takes_more laws c.put-in-Question-2.ensures (takes_none laws _)))))

pub returns-in-RefusedQuestion : goal.returns-in-RefusedQuestion
returns-in-RefusedQuestion g c =
    let laws = g.met.S.Sink.laws in
    takes_as laws (refused_question_is c.in-RefusedQuestion.is c.number-in-RefusedQuestion.ensures.exact)
    (takes_more laws c.put_number-in-RefusedQuestion.ensures
    (takes_more laws c.put_labelled-in-RefusedQuestion.ensures (takes_more laws c.put_labelled-in-RefusedQuestion-2.ensures (takes_none laws _))))
