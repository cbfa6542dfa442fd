-- The whole sheet of the sample day. Assumes nothing.
use Rattle.std.proofs.Common.{ℕ, List, [], ◌++◌, Option, sym, refl, subst}
use Rattle.std.specs.List.{flat_map}
use Rattle.dayfile.specs.declared.refusal.FileRefusal.{FileRefusal}
use Rattle.sheet.specs.Day.{plan_of, handover_count, handover_at, question_count, question_at}
use Rattle.sheet.specs.Sheet.{LineMore, Lines, HandedLine, AskedLine, day_entries, DayText, TextBy, IsSheet}
use Rattle.worked.specs.Sample.{sample}
use Rattle.worked.specs.Worked.{line, handover_lines, question_lines}
use Rattle.worked.proofs.SampleFile.{accepted}
use Rattle.worked.proofs.Handovers.{handed_0, handed_1, handed_2, handed_3, handed_4}
use Rattle.worked.proofs.Questions.{asked_0, asked_1, asked_2, asked_3, asked_4}

-- one line more
more : {Before Line : List ℕ → Type 0} (text new : List ℕ) → Before text → Line new → LineMore Before Line (text ++ new)
more text new b l = record { before = text; line = new; lines = b; last = l; is = refl }

-- five lines
five : (Line : ℕ → List ℕ → Type 0) {a b c d e : List ℕ} → Line 0 a → Line 1 b → Line 2 c → Line 3 d → Line 4 e → Lines Line 5 ((((a ++ b) ++ c) ++ d) ++ e)
five Line {a} {b} {c} {d} {e} p0 p1 p2 p3 p4 =
    more (((a ++ b) ++ c) ++ d) e (more ((a ++ b) ++ c) d (more (a ++ b) c (more a b (more [] a refl p0) p1) p2) p3) p4

handovers : Lines (HandedLine (plan_of sample) (handover_at sample)) (handover_count sample) (flat_map line handover_lines)
unfolding sample handover_count
handovers = five (HandedLine (plan_of sample) (handover_at sample)) handed_0 handed_1 handed_2 handed_3 handed_4

questions : Lines (AskedLine (day_entries sample) (question_at sample)) (question_count sample) (flat_map line question_lines)
unfolding sample question_count
questions = five (AskedLine (day_entries sample) (question_at sample)) asked_0 asked_1 asked_2 asked_3 asked_4

day_text : DayText sample (flat_map line (handover_lines ++ question_lines))
day_text = record { handovers = flat_map line handover_lines; questions = flat_map line question_lines; handed = handovers; asked = questions; is = refl }

pub whole_sheet : IsSheet sample (flat_map line (handover_lines ++ question_lines))
whole_sheet = subst (λ (v : Option FileRefusal). TextBy sample v (flat_map line (handover_lines ++ question_lines))) (sym accepted) day_text
