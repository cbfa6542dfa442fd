-- A question's line, and one more line after those before. Assumes nothing.
use Rattle.std.proofs.Common.{◌≡◌, ℕ, ◌+◌, ◌^◌, ◌<◌, ◌≤◌, ◌⊎◌, List, [], ◌++◌, length, Ok, Err, Result, Vec, refl, ap, subst, inl, inr, ⊎_elim, add-one, arith}
use Rattle.std.proofs.lemmas.List.{length-append}
use Rattle.std.proofs.lemmas.Bool.{cases_lt}
use Rattle.refusals.specs.Number.{number}
use Rattle.refusals.specs.declared.Refusal.{Refusal}
use Rattle.plans.specs.Meaning.{Entry}
use Rattle.order.specs.declared.kinds.Relation.{Relation}
use Rattle.order.specs.declared.kinds.Relation.TheVariants.{Same, Before, After, Beside}
use Rattle.order.proofs.Chains.{chain_rises, chain_within}
use Rattle.grouping.specs.declared.plan.GroupPlan.{GroupPlan}
use Rattle.book.specs.declared.floor.Floor.{Floor}
use Rattle.book.specs.History.{Ordered}
use Rattle.lines.specs.Line.{question_line, refused_question_line}
use Rattle.lines.proofs.Bounds.{question_le, refused_question_le}
use Rattle.sheet.specs.Sheet.{QuestionLine, refused, related}
use Rattle.sheet.specs.Steps.{reply_text, QuestionPut, QuestionsPut}
use Rattle.text.specs.Vector.{vector_laws}

-- the line of a relation that is told
pub line_related : (es : List Entry) (a b : ℕ) (r : Relation) → Ordered es a b (Ok r) → QuestionLine es (a, b) (question_line a b r)
line_related es a b Same o = let h = o.same.0 refl in related h.1 (subst (λ (n : ℕ). n < length es) h.0 h.1) Same h.0 refl
line_related es a b Before o =
    let h = o.before.0 refl in
    let rise = chain_rises h in
    let in_List = chain_within h in
    related (omega arith) in_List Before h refl
line_related es a b After o =
    let h = o.after.0 refl in
    let rise = chain_rises h in
    let in_List = chain_within h in
    related in_List (omega arith) After h refl
line_related es a b Beside o = let h = o.beside.0 refl in related h.3 h.4 Beside (h.0, h.1, h.2) refl

-- a refusal is of a number past the list
past : (es : List Entry) (a b : ℕ) (e : Refusal) → Ordered es a b (Err e) → (length es ≤ a) ⊎ (length es ≤ b)
past es a b e o =
    ⊎_elim
    (λ (la : a < length es). ⊎_elim
    (λ (lb : b < length es). absurd (o.beside.1 ((λ (p : a ≡ b). o.same.1 (p, la)), (λ c. o.before.1 c), (λ c. o.after.1 c), la, lb)))
    (λ (l : length es ≤ b). inr l) (cases_lt b (length es)))
    (λ (l : length es ≤ a). inl l) (cases_lt a (length es))

pub line_refused : (es : List Entry) (a b : ℕ) (e : Refusal) → Ordered es a b (Err e) → QuestionLine es (a, b) (refused_question_line a b (number e))
line_refused es a b e o = let p = past es a b e o in refused p (ap (refused_question_line a b) (o.refused.1 p))

-- the line of any reply
pub line_replied : (es : List Entry) (a b : ℕ) (r : Result Relation Refusal) → Ordered es a b r → QuestionLine es (a, b) (reply_text a b r)
line_replied es a b (Ok r) o = line_related es a b r o
line_replied es a b (Err e) o = line_refused es a b e o

pub reply_short : (a b : ℕ) (r : Result Relation Refusal) → a < 2 ^ 16 → b < 2 ^ 16 → length (reply_text a b r) ≤ 24
reply_short a b (Ok r) ah bh = omega (arith, question_le a b r ah bh)
reply_short a b (Err e) ah bh = omega (arith, refused_question_le a b e ah bh)

-- no question yet
pub questions_none : {Z : Type 0} {f : Floor GroupPlan} {qs : ℕ → ℕ × ℕ} {out : Vec ℕ Z} → QuestionsPut f qs 0 out out
questions_none {out = out} = record { text = []; added = vector_laws.none out; short = omega arith; says = λ cs run. refl }

-- one question more
pub questions_more : {Z : Type 0} {f : Floor GroupPlan} {qs : ℕ → ℕ × ℕ} {n : ℕ} {q : ℕ × ℕ} {out out' out'' : Vec ℕ Z}
    → QuestionsPut f qs n out out' → q ≡ qs n → QuestionPut f q out' out'' → QuestionsPut f qs (n + 1) out out''
questions_more p e r = record {
  text = p.text ++ r.line;
  added = vector_laws.more _ _ _ _ _ p.added r.added;
  short = omega (arith, length-append p.text r.line);
  says = λ cs run. rw add-one (record { before = p.text; line = r.line; lines = p.says cs run; last = rw e at (r.says cs run); is = refl });
}
