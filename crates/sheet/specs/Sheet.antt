-- The day sheet, from a day file's bytes to its own: the plain list says what is settled, counts are by counting, relations by chains.
use Rattle.std.specs.Prelude.{◌≡◌, ℕ, zero, suc, ◌<◌, ◌≤◌, ◌≢◌, ◌⊎◌, List, [], ◌++◌, length, Some, None, Option, slice_index}
use Rattle.refusals.specs.Number.{number}
use Rattle.refusals.specs.declared.Refusal.TheVariants.{NotSettled}
use Rattle.plans.specs.Meaning.{Meaning, Entry}
use Rattle.order.specs.declared.kinds.Relation.{Relation}
use Rattle.order.specs.Plain.{Call, plain}
use Rattle.order.specs.Chains.{Stands}
use Rattle.order.specs.Counts.{IsCount}
use Rattle.dayfile.specs.declared.refusal.FileRefusal.{FileRefusal}
use Rattle.dayfile.specs.Check.{file_verdict}
use Rattle.dayfile.specs.Verdict.{told}
use Rattle.text.specs.Line.{refused_file_line}
use Rattle.lines.specs.Line.{handover_line, refused_handover_line, question_line, refused_question_line}
use Rattle.sheet.specs.Day.{plan_of, handover_count, handover_at, question_count, question_at, refusal_of, handed, calls}

-- the counts of the entry i, one for each dial: how many entries turn the dial and are this entry or before it
pub record Counts (m : Meaning) (es : List Entry) (i : ℕ) (counts : List ℕ) : Type 0 where
  pub length : length counts ≡ m.dials
  pub counted : (k : ℕ) → k < m.dials → IsCount m es k i (slice_index counts k)

-- the line of the handover h after the calls cs: refused by the plain list's number, or settled with the next number and its counts
pub data HandoverLine (m : Meaning) (cs : List Call) (h : Entry) (line : List ℕ) : Type 0 where
  refused : refusal_of m cs h ≢ 0 → line ≡ refused_handover_line h.0 h.1 (refusal_of m cs h) → HandoverLine m cs h line
  settled : refusal_of m cs h ≡ 0 → (counts : List ℕ) → Counts m (plain m (handed m cs h)).entries (length (plain m cs).entries) counts
      → line ≡ handover_line (length (plain m cs).entries) h.0 h.1 counts → HandoverLine m cs h line

-- the line of the question q about the entries es: how the two stand to each other by chains, or refused where one is past the list
pub data QuestionLine (es : List Entry) (q : ℕ × ℕ) (line : List ℕ) : Type 0 where
  refused : (length es ≤ q.0) ⊎ (length es ≤ q.1) → line ≡ refused_question_line q.0 q.1 (number NotSettled) → QuestionLine es q line
  related : q.0 < length es → q.1 < length es → (r : Relation) → Stands es q.0 q.1 r → line ≡ question_line q.0 q.1 r → QuestionLine es q line

-- a text, and one line more
pub record LineMore (Before : List ℕ → Type 0) (Line : List ℕ → Type 0) (text : List ℕ) : Type 0 where
  pub before : List ℕ
  pub line : List ℕ
  pub lines : Before before
  pub last : Line line
  pub is : text ≡ before ++ line

-- the first n lines, one after the other, where Line i tells what line i is
abbrev pub Lines : (ℕ → List ℕ → Type 0) → ℕ → List ℕ → Type 0
Lines Line zero text = text ≡ []
Lines Line (suc n) text = LineMore (Lines Line n) (Line n) text

-- line i of the handovers hs, after the calls of those before
abbrev pub HandedLine : Meaning → (ℕ → Entry) → ℕ → List ℕ → Type 0
HandedLine m hs i line = HandoverLine m (calls m hs i) (hs i) line

-- line i of the questions qs, about the entries es
abbrev pub AskedLine : List Entry → (ℕ → ℕ × ℕ) → ℕ → List ℕ → Type 0
AskedLine es qs i line = QuestionLine es (qs i) line

-- the entries once every handover of the file is done
abbrev pub day_entries : List ℕ → List Entry
day_entries bs = (plain (plan_of bs) (calls (plan_of bs) (handover_at bs) (handover_count bs))).entries

-- the text of an accepted file: a line for each handover, then one for each question, asked after the last handover
pub record DayText (bs text : List ℕ) : Type 0 where
  pub handovers : List ℕ
  pub questions : List ℕ
  pub handed : Lines (HandedLine (plan_of bs) (handover_at bs)) (handover_count bs) handovers
  pub asked : Lines (AskedLine (day_entries bs) (question_at bs)) (question_count bs) questions
  pub is : text ≡ handovers ++ questions

-- the text by the file's verdict: the day's lines, or the line of the refusal
abbrev pub TextBy : List ℕ → Option FileRefusal → List ℕ → Type 0
TextBy bs None text = DayText bs text
TextBy bs (Some e) text = text ≡ refused_file_line (told e).0 (told e).1

-- the text is the sheet of the file of these bytes
abbrev pub IsSheet : List ℕ → List ℕ → Type 0
IsSheet bs text = TextBy bs (file_verdict bs) text

-- a file has one sheet only
abbrev pub OneSheet : Type 0
OneSheet = (bs text text' : List ℕ) → IsSheet bs text → IsSheet bs text' → text ≡ text'
