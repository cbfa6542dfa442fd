-- The sheet of a file: what is printed is one, and there is no other. Assumes nothing.
use Rattle.std.proofs.Common.{◌≡◌, ℕ, zero, suc, List, ◌++◌, length, Some, None, Option, sym, ap, ◌∙◌, ap₂, arith}
use Rattle.std.proofs.lemmas.List.{ext_get_or}
use Rattle.plans.specs.Meaning.{Meaning, Entry}
use Rattle.order.specs.Plain.{Call, plain}
use Rattle.order.specs.Counts.{IsCount}
use Rattle.order.proofs.Chains.{one_relation}
use Rattle.dayfile.specs.declared.refusal.FileRefusal.{FileRefusal}
use Rattle.dayfile.specs.Check.{file_verdict}
use Rattle.lines.specs.Line.{handover_line, question_line}
use Rattle.sheet.specs.Sheet.{Counts, HandoverLine, QuestionLine, refused, settled, related, Lines, TextBy, OneSheet}

one_count : {m : Meaning} {es : List Entry} {k i n n' : ℕ} → IsCount m es k i n → IsCount m es k i n' → n ≡ n'
one_count c c' = c.counted c.decided ∙ sym (c'.counted c.decided)

one_counts : {m : Meaning} {es : List Entry} {i : ℕ} (xs ys : List ℕ) → Counts m es i xs → Counts m es i ys → xs ≡ ys
one_counts xs ys c c' = ext_get_or 0 xs ys (c.length ∙ sym c'.length) (λ k l. one_count (c.counted k (omega (arith, c.length))) (c'.counted k (omega (arith, c.length))))

one_handover : (m : Meaning) (cs : List Call) (h : Entry) (t t' : List ℕ) → HandoverLine m cs h t → HandoverLine m cs h t' → t ≡ t'
one_handover m cs h t t' (refused n e) (refused n' e') = e ∙ sym e'
one_handover m cs h t t' (refused n e) (settled z c s e') = absurd (n z)
one_handover m cs h t t' (settled z c s e) (refused n' e') = absurd (n' z)
one_handover m cs h t t' (settled z c s e) (settled z' c' s' e') =
    e ∙ ap (handover_line (length (plain m cs).entries) h.0 h.1) (one_counts c c' s s') ∙ sym e'

one_question : (es : List Entry) (q : ℕ × ℕ) (t t' : List ℕ) → QuestionLine es q t → QuestionLine es q t' → t ≡ t'
one_question es q t t' (refused p e) (refused p' e') = e ∙ sym e'
one_question es q t t' (refused p e) (related l l' r s e') = absurd (grind arith)
one_question es q t t' (related l l' r s e) (refused p e') = absurd (grind arith)
one_question es q t t' (related l l' r s e) (related k k' r' s' e') = e ∙ ap (question_line q.0 q.1) (one_relation es q.0 q.1 r r' s s') ∙ sym e'

one_lines : (Line : ℕ → List ℕ → Type 0) → ((i : ℕ) (t t' : List ℕ) → Line i t → Line i t' → t ≡ t') → (n : ℕ) (t t' : List ℕ) → Lines Line n t → Lines Line n t' → t ≡ t'
one_lines Line one zero t t' h h' = h ∙ sym h'
one_lines Line one (suc n) t t' h h' = h.is ∙ ap₂ (λ (x y : List ℕ). x ++ y) (one_lines Line one n h.before h'.before h.lines h'.lines) (one n h.line h'.line h.last h'.last) ∙ sym h'.is

one_by : (bs : List ℕ) (v : Option FileRefusal) (t t' : List ℕ) → TextBy bs v t → TextBy bs v t' → t ≡ t'
one_by bs None t t' h h' =
    h.is
    ∙ ap₂ (λ (x y : List ℕ). x ++ y)
    (one_lines _ (λ i. one_handover _ _ _) _ h.handovers h'.handovers h.handed h'.handed)
    (one_lines _ (λ i. one_question _ _) _ h.questions h'.questions h.asked h'.asked)
    ∙ sym h'.is
one_by bs (Some e) t t' h h' = h ∙ sym h'

pub one_sheet : OneSheet
one_sheet bs t t' h h' = one_by bs (file_verdict bs) t t' h h'
