-- What a day file tells: the plan of its floor, its handovers and the calls that they make, its questions.
use Rattle.std.specs.Prelude.{ℕ, zero, suc, ◌+◌, cond, List, [], ◌∷◌, ◌++◌, ◌==◌, slice_index}
use Rattle.plans.specs.Meaning.{Meaning, Entry}
use Rattle.order.specs.Plain.{Call, offer, settle, plain, refusal}
use Rattle.grouping.specs.Plan.{group_meaning}
use Rattle.dayfile.specs.declared.records.Kind.TheVariants.{Handovers, Questions}
use Rattle.dayfile.specs.Layout.{word}
use Rattle.dayfile.specs.Reading.{file_contents}
use Rattle.dayfile.specs.Records.{record_count, record_place}

-- the plan of the file's floor
unfoldable pub plan_of : List ℕ → Meaning
plan_of bs = group_meaning (file_contents bs)

-- how many handovers the file has
unfoldable pub handover_count : List ℕ → ℕ
handover_count bs = record_count bs Handovers

-- handover i: its giver and its taker, a byte each
unfoldable pub handover_at : List ℕ → ℕ → Entry
handover_at bs i = (slice_index bs (record_place bs Handovers i), slice_index bs (record_place bs Handovers i + 1))

-- how many questions the file has
unfoldable pub question_count : List ℕ → ℕ
question_count bs = record_count bs Questions

-- question i: the numbers of two handovers
unfoldable pub question_at : List ℕ → ℕ → ℕ × ℕ
question_at bs i = (word bs (record_place bs Questions i), word bs (record_place bs Questions i + 2))

-- the number by which the plain list refuses the handover h after the calls cs; 0 where it accepts it
abbrev pub refusal_of : Meaning → List Call → Entry → ℕ
refusal_of m cs h = refusal m (plain m cs) (offer h.0 h.1)

-- the calls cs and those of the handover h: it is offered and, where that is accepted, settled
unfoldable pub handed : Meaning → List Call → Entry → List Call
handed m cs h =
    cond (refusal_of m cs h == 0)
    ((cs ++ offer h.0 h.1 ∷ []) ++ settle h.0 h.1 ∷ [])
    (cs ++ offer h.0 h.1 ∷ [])

-- the calls of the first n of the handovers hs
abbrev pub calls : Meaning → (ℕ → Entry) → ℕ → List Call
calls m hs zero = []
calls m hs (suc n) = handed m (calls m hs n) (hs n)
