-- The handovers and questions of a file, out of their records. Assumes nothing.
use Rattle.std.proofs.Common.{◌≡◌, ℕ, ◌+◌, ◌*◌, ◌<◌, ◌≤◌, List, length, get_or, drop, Some, None, Option, ap, ◌∙◌, ap₂, add-zero, arith, Bor}
use Rattle.std.proofs.lemmas.List.{get_or-take, get_or-drop}
use Rattle.dayfile.specs.declared.records.Kind.TheVariants.{Handovers, Questions}
use Rattle.dayfile.specs.declared.records.Record.{Record}
use Rattle.dayfile.specs.declared.records.Records.{Records}
use Rattle.std.specs.Iterator.{Yields, YieldsFirstBy}
use Rattle.dayfile.specs.declared.records.Record.TheVariants.{Route, Group, Handover, Question}
use Rattle.dayfile.specs.Check.{file_verdict}
use Rattle.dayfile.specs.Layout.{word}
use Rattle.dayfile.specs.Records.{Part, part_of, part_at, told_record, file_record, record_place, records_from, records_left}
use Rattle.dayfile.proofs.Runs.{few_records, turn_record, end_records}
use Rattle.sheet.specs.Day.{handover_count, handover_at, question_count, question_at}
use Rattle.dayfile.specs.declared.file.DayFile.{DayFile}
use Rattle.sheet.specs.Steps.{bytes_of, handover_in, question_in}

-- byte k of a part
part_byte : (f b : Bor (List ℕ)) (start size k : ℕ) → part_of b ≡ part_at f start size → k < size → get_or b.now k 0 ≡ get_or f.now (start + k) 0
part_byte f b start size k e l = ap (λ (p : Part). get_or p.2 k 0) e ∙ get_or-take size (drop start f.now) k 0 l ∙ get_or-drop start f.now k 0

-- and the word there
part_word : (f b : Bor (List ℕ)) (start size k : ℕ) → part_of b ≡ part_at f start size → k + 1 < size → word b.now k ≡ word f.now (start + k)
part_word f b start size k e l =
    ap₂ (λ (x y : ℕ). x + y * 256) (part_byte f b start size k e (omega arith)) (part_byte f b start size (k + 1) e l ∙ ap (λ (n : ℕ). get_or f.now n 0) (omega arith))

-- record i of the handovers tells handover i, and record i of the questions question i
handover_told : (f : Bor (List ℕ)) (x : Record) (i : ℕ) → told_record x ≡ file_record f Handovers i → handover_in x ≡ Some (handover_at f.now i)
unfolding handover_at
handover_told f (Handover b) i h =
    let start = record_place f.now Handovers i in
    let e = ap (λ (x : ℕ × Part). x.1) h in
    let two : length b.now ≡ 2 = ap (λ (p : Part). p.1) e in
    rw two (ap₂ (λ (x y : ℕ). Some (x, y)) (part_byte f b start 2 0 e (omega arith) ∙ ap (λ (n : ℕ). get_or f.now n 0) (add-zero start)) (part_byte f b start 2 1 e (omega arith)))
handover_told f (Route b) i h = absurd (omega (arith, ap (λ (x : ℕ × Part). x.0) h))
handover_told f (Group b) i h = absurd (omega (arith, ap (λ (x : ℕ × Part). x.0) h))
handover_told f (Question b) i h = absurd (omega (arith, ap (λ (x : ℕ × Part). x.0) h))

question_told : (f : Bor (List ℕ)) (x : Record) (i : ℕ) → told_record x ≡ file_record f Questions i → question_in x ≡ Some (question_at f.now i)
unfolding question_at
question_told f (Question b) i h =
    let start = record_place f.now Questions i in
    let e = ap (λ (x : ℕ × Part). x.1) h in
    let four : length b.now ≡ 4 = ap (λ (p : Part). p.1) e in
    rw four (ap₂ (λ (x y : ℕ). Some (x, y)) (part_word f b start 4 0 e (omega arith) ∙ ap (word f.now) (add-zero start)) (part_word f b start 4 2 e (omega arith)))
question_told f (Route b) i h = absurd (omega (arith, ap (λ (x : ℕ × Part). x.0) h))
question_told f (Group b) i h = absurd (omega (arith, ap (λ (x : ℕ × Part). x.0) h))
question_told f (Handover b) i h = absurd (omega (arith, ap (λ (x : ℕ × Part). x.0) h))

abbrev steps : Records → Option Record → Records → Type 0
steps = YieldsFirstBy told_record records_left

-- A loop over the records of a file without a refusal: the record that it comes to next, and its end.
module _ (file : DayFile) (a : file_verdict (bytes_of file) ≡ None) (s t u : Records) (xs : List Record) (y : Yields steps s xs t) where
  pub next_handover : records_left s ≡ records_from file.bytes Handovers 0 → {r : Option Record} {x : Record} → r ≡ Some x → steps t r u
      → (length xs < handover_count (bytes_of file)) × (length xs < 1000) × (handover_in x ≡ Some (handover_at (bytes_of file) (length xs)))
  unfolding handover_count
  next_handover all {r} {x} e h =
      let n = turn_record file.bytes Handovers a s all xs t y r u x e h in
      (n.0, omega (arith, n.0, few_records file Handovers a), handover_told file.bytes x (length xs) n.1)

  pub all_handovers : records_left s ≡ records_from file.bytes Handovers 0 → {r : Option Record} → r ≡ None → steps t r u → length xs ≡ handover_count (bytes_of file)
  unfolding handover_count
  all_handovers all {r} e h = end_records file.bytes Handovers a s all xs t y r u e h

  pub next_question : records_left s ≡ records_from file.bytes Questions 0 → {r : Option Record} {x : Record} → r ≡ Some x → steps t r u
      → (length xs < question_count (bytes_of file)) × (length xs < 1000) × (question_in x ≡ Some (question_at (bytes_of file) (length xs)))
  unfolding question_count
  next_question all {r} {x} e h =
      let n = turn_record file.bytes Questions a s all xs t y r u x e h in
      (n.0, omega (arith, n.0, few_records file Questions a), question_told file.bytes x (length xs) n.1)

  pub all_questions : records_left s ≡ records_from file.bytes Questions 0 → {r : Option Record} → r ≡ None → steps t r u → length xs ≡ question_count (bytes_of file)
  unfolding question_count
  all_questions all {r} e h = end_records file.bytes Questions a s all xs t y r u e h

-- at most 1,000 of each
pub few_handovers : (file : DayFile) → file_verdict (bytes_of file) ≡ None → handover_count (bytes_of file) ≤ 1000
unfolding handover_count
few_handovers file a = few_records file Handovers a
