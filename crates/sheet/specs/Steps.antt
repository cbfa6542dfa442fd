-- The steps in which the sheet is printed: what each adds to the text, and where it leaves the floor.
use Rattle.std.specs.Prelude.{◌≡◌, ℕ, ◌*◌, ◌<◌, ◌≤◌, cond, List, length, Some, None, Ok, Err, Option, Result, Vec, nat_eq, slice_index}
use Rattle.refusals.specs.Number.{number}
use Rattle.refusals.specs.declared.Refusal.{Refusal}
use Rattle.order.specs.declared.kinds.Relation.{Relation}
use Rattle.lines.specs.Line.{question_line, refused_question_line}
use Rattle.plans.specs.Meaning.{Meaning, Entry}
use Rattle.order.specs.Plain.{Call}
use Rattle.order.specs.Counts.{IsCount}
use Rattle.grouping.specs.declared.plan.GroupPlan.{GroupPlan}
use Rattle.grouping.specs.Plan.{contents, group_meaning}
use Rattle.book.specs.declared.floor.Floor.{Floor}
use Rattle.book.specs.History.{Run, entries_of}
use Rattle.dayfile.specs.declared.file.DayFile.{DayFile}
use Rattle.dayfile.specs.declared.records.Record.{Record}
use Rattle.dayfile.specs.declared.records.Record.TheVariants.{Handover, Question}
use Rattle.dayfile.specs.Layout.{word}
use Rattle.text.specs.Vector.{Added}
use Rattle.sheet.specs.Day.{handed, calls}
use Rattle.sheet.specs.Sheet.{HandoverLine, QuestionLine, Lines, HandedLine, AskedLine}

-- what a group plan means
abbrev pub meaning : GroupPlan → Meaning
meaning p = group_meaning (contents p)

-- what the floor's plan means
abbrev pub floor_meaning : Floor GroupPlan → Meaning
floor_meaning f = meaning f.plan

-- the floor came by these calls
abbrev pub After : List Call → Floor GroupPlan → Type 0
After cs f = Run meaning cs f

-- the floor came by some calls
abbrev pub Comes : Floor GroupPlan → Type 0
Comes f = (cs : List Call) × After cs f

-- the bytes of a file
abbrev pub bytes_of : DayFile → List ℕ
bytes_of file = file.bytes.now

-- the handover that a record tells: two bytes
abbrev pub handover_in : Record → Option Entry
handover_in (Handover b) = cond (nat_eq (length b.now) 2) (Some (slice_index b.now 0, slice_index b.now 1)) None
handover_in _ = None

-- the question that a record tells: two words
abbrev pub question_in : Record → Option (ℕ × ℕ)
question_in (Question b) = cond (nat_eq (length b.now) 4) (Some (word b.now 0, word b.now 2)) None
question_in _ = None

-- the line of a question about the handovers a and b, by the reply to it
abbrev pub reply_text : ℕ → ℕ → Result Relation Refusal → List ℕ
reply_text a b (Ok relation) = question_line a b relation
reply_text a b (Err refusal) = refused_question_line a b (number refusal)

-- the first places have the counts of the entry i, one for each dial
abbrev pub CountsIn : Floor GroupPlan → ℕ → List ℕ → Type 0
CountsIn f i counts =
    (cs : List Call) → After cs f → (k : ℕ) → k < (floor_meaning f).dials → IsCount (floor_meaning f) (entries_of meaning cs f) k i (slice_index counts k)

-- a handover on the floor f: its line is added
pub record HandoverPut {Z : Type 0} (f : Floor GroupPlan) (h : Entry) (out : Vec ℕ Z) (f' : Floor GroupPlan) (out' : Vec ℕ Z) : Type 0 where
  pub line : List ℕ
  pub added : Added out line out'
  pub short : length line ≤ 206
  pub plan : f'.plan ≡ f.plan
  pub run : (cs : List Call) → After cs f → After (handed (floor_meaning f) cs h) f'
  pub says : (cs : List Call) → After cs f → HandoverLine (floor_meaning f) cs h line

-- the first n handovers hs on a new floor f: their lines are added
pub record HandoversPut {Z : Type 0} (f : Floor GroupPlan) (hs : ℕ → Entry) (n : ℕ) (out : Vec ℕ Z) (f' : Floor GroupPlan) (out' : Vec ℕ Z) : Type 0 where
  pub text : List ℕ
  pub added : Added out text out'
  pub short : length text ≤ 206 * n
  pub plan : f'.plan ≡ f.plan
  pub run : After (calls (floor_meaning f) hs n) f'
  pub says : Lines (HandedLine (floor_meaning f) hs) n text

-- a question about the floor f: its line is added
pub record QuestionPut {Z : Type 0} (f : Floor GroupPlan) (q : ℕ × ℕ) (out out' : Vec ℕ Z) : Type 0 where
  pub line : List ℕ
  pub added : Added out line out'
  pub short : length line ≤ 24
  pub says : (cs : List Call) → After cs f → QuestionLine (entries_of meaning cs f) q line

-- the first n questions qs about the floor f: their lines are added
pub record QuestionsPut {Z : Type 0} (f : Floor GroupPlan) (qs : ℕ → ℕ × ℕ) (n : ℕ) (out out' : Vec ℕ Z) : Type 0 where
  pub text : List ℕ
  pub added : Added out text out'
  pub short : length text ≤ 24 * n
  pub says : (cs : List Call) → After cs f → Lines (AskedLine (entries_of meaning cs f) qs) n text
