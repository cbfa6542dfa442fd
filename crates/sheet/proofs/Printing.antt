-- The printed text is the sheet. Assumes nothing.
use Rattle.std.proofs.Common.{◌≡◌, ℕ, ◌^◌, ◌<◌, ◌≤◌, List, [], ◌++◌, length, Some, Option, vec_capacity, vec_items, Vec, ap, ◌∙◌, subst, arith}
use Rattle.refusals.specs.Number.{number}
use Rattle.plans.specs.Meaning.{Meaning}
use Rattle.order.specs.Plain.{plain}
use Rattle.grouping.specs.declared.plan.GroupPlan.{GroupPlan}
use Rattle.grouping.specs.Plan.{contents, group_meaning}
use Rattle.book.specs.declared.floor.Floor.{Floor}
use Rattle.dayfile.specs.declared.refusal.FileRefusal.{FileRefusal}
use Rattle.dayfile.specs.Check.{file_verdict}
use Rattle.dayfile.specs.Reading.{file_contents}
use Rattle.text.specs.Laws.{Takes}
use Rattle.text.specs.Line.{refused_file_line}
use Rattle.text.specs.Vector.{Room, Added}
use Rattle.lines.proofs.Bounds.{refused_file_le}
use Rattle.sheet.specs.Day.{plan_of, handover_at, handover_count, question_at, question_count, calls}
use Rattle.sheet.specs.Sheet.{Lines, AskedLine, DayText, TextBy, IsSheet}
use Rattle.sheet.specs.Steps.{meaning, floor_meaning, HandoversPut, QuestionsPut}

-- a text that is added to an empty one
added_alone : {Z : Type 0} {v w : Vec ℕ Z} {text : List ℕ} → Added v text w → vec_items v ≡ [] → vec_items w ≡ text
added_alone {text = text} a e = a.items ∙ ap (λ xs. xs ++ text) e

-- the plan that was read is the file's
pub plan_read : (bs : List ℕ) {p q : GroupPlan} → q ≡ p → contents p ≡ file_contents bs → meaning q ≡ plan_of bs
unfolding plan_of
plan_read bs e h = ap meaning e ∙ ap group_meaning h

-- the handovers, then the questions, in an empty buffer
pub day_text : (bs : List ℕ) {Z : Type 0} {f one : Floor GroupPlan} {v w u : Vec ℕ Z} → vec_items v ≡ [] → floor_meaning f ≡ plan_of bs
    → HandoversPut f (handover_at bs) (handover_count bs) v one w → QuestionsPut one (question_at bs) (question_count bs) w u → DayText bs (vec_items u)
day_text bs empty m p q = record {
  handovers = p.text;
  questions = q.text;
  handed = rw m at p.says;
  asked =
      subst (λ (x : Meaning). Lines (AskedLine (plain x (calls (plan_of bs) (handover_at bs) (handover_count bs))).entries (question_at bs)) (question_count bs) q.text)
      (ap meaning p.plan ∙ m) (rw m at (q.says _ p.run));
  is = q.added.items ∙ ap (λ (xs : List ℕ). xs ++ q.text) (added_alone p.added empty);
}

-- the text by the file's verdict
pub sheet_by : (bs text : List ℕ) {v : Option FileRefusal} → v ≡ file_verdict bs → TextBy bs v text → IsSheet bs text
sheet_by bs text e t = subst (λ (o : Option FileRefusal). TextBy bs o text) e t

-- the line of the refusal, in an empty buffer that has room for it
pub refused_sheet : (bs : List ℕ) (e : FileRefusal) {Z : Type 0} {v w : Vec ℕ Z} {n place : ℕ} → vec_items v ≡ [] → 230000 ≤ vec_capacity v
    → Some e ≡ file_verdict bs → e.place < 2 ^ 16 → Takes Room Added v (refused_file_line n place) w → n ≡ number e.refusal → place ≡ e.place → IsSheet bs (vec_items w)
refused_sheet bs e {v = v} {w = w} {place = place} empty roomy is small a named placed =
    let line : Takes Room Added v (refused_file_line (number e.refusal) e.place) w = subst (λ (p : ℕ). Takes Room Added v (refused_file_line (number e.refusal) p) w) placed (subst (λ (m : ℕ). Takes Room Added v (refused_file_line m place) w) named a) in
    sheet_by bs _ is (added_alone (line (omega (arith, roomy, ap length empty, refused_file_le e.refusal e.place small))) empty)
