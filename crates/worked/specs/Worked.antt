-- Worked examples, each over the definitions that the calls' contracts use.
use Rattle.std.specs.Prelude.{◌≡◌, ℕ, true, false, List, [], ◌∷◌, ◌++◌, map, None, codes, slice_index, slice_index_or}
use Rattle.std.specs.List.{range_with_len, flat_map}
use Rattle.plans.specs.declared.turns.Turns.TheVariants.{One}
use Rattle.plans.specs.Meaning.{Meaning, Entry}
use Rattle.plans.specs.Station.{station_meaning}
use Rattle.plans.specs.Join.{join_fits, join_meaning}
use Rattle.routes.specs.declared.route.Group.TheVariants.{Star}
use Rattle.regrouping.specs.Examples.{r, PathExample, SquareExample, BridgeExample}
use Rattle.grouping.specs.Plan.{given, group_meaning}
use Rattle.order.specs.declared.kinds.Relation.TheVariants.{Before, Beside}
use Rattle.order.specs.Plain.{Call, offer, settle, plain}
use Rattle.order.specs.Chains.{Stands}
use Rattle.order.specs.Stamps.{stamped, stamp}
use Rattle.dayfile.specs.Check.{file_verdict}
use Rattle.sheet.specs.Day.{question_at}
use Rattle.sheet.specs.Sheet.{day_entries, AskedLine, IsSheet}
use Rattle.worked.specs.Sample.{sample}

-- the first n counts of a stamp
abbrev pub counts : ℕ → (ℕ → ℕ) → List ℕ
counts n f = map f (range_with_len 0 n)

-- a plan of three routes with a dial each: 0-2 turns dial 0, 0-1 turns dial 1 and 1-3 turns dial 2
abbrev pub three_stars : Meaning
three_stars = group_meaning (given 4 (r 0 1 1 ∷ r 0 2 0 ∷ r 1 3 2 ∷ []) (Star 2 ∷ Star 0 ∷ Star 3 ∷ []))

-- present stamps: (1,0,0) of station 0 and (0,0,1) of station 1
abbrev pub held : ℕ → ℕ → ℕ
held s k = slice_index (slice_index_or ((1 ∷ 0 ∷ 0 ∷ []) ∷ (0 ∷ 0 ∷ 1 ∷ []) ∷ []) s []) k

-- two handovers on the station plan of 4 stations: 0 to 1, then 1 to 2
abbrev pub two_calls : List Call
two_calls = offer 0 1 ∷ settle 0 1 ∷ offer 1 2 ∷ settle 1 2 ∷ []

-- what the plain list makes of them
abbrev pub two_entries : List Entry
two_entries = (plain (station_meaning 4) two_calls).entries

-- the text as a line: byte 10 at its end
abbrev pub line : List ℕ → List ℕ
line text = text ++ 10 ∷ []

-- the lines of the sample day's handovers
abbrev pub handover_lines : List (List ℕ)
handover_lines = codes "0 0 1 1,0" ∷ codes "1 3 2 0,1" ∷ codes "2 2 0 2,1" ∷ codes "- 1 3 refused 11" ∷ codes "3 0 1 3,1" ∷ []

-- the lines of its questions
abbrev pub question_lines : List (List ℕ)
question_lines = codes "0 1 beside" ∷ codes "0 3 before" ∷ codes "3 1 after" ∷ codes "2 2 same" ∷ codes "0 4 refused 15" ∷ []

-- the examples
pub record Worked : Type 0 where
  -- the stamps (1,0,0) and (0,0,1) with dial 1 turned give (1,1,1): the larger of each two counts, and one more at the dial
  pub larger_counts_and_one_more : counts 3 (stamped three_stars held (0, 1)) ≡ 1 ∷ 1 ∷ 1 ∷ []
  -- on the station plan of 4, the calls settle 0 to 1 and then 1 to 2
  pub two_settled : two_entries ≡ (0, 1) ∷ (1, 2) ∷ []
  -- the first of them has the stamp (1,1,0,0)
  pub first_stamp : counts 4 (stamp (station_meaning 4) two_entries 0) ≡ 1 ∷ 1 ∷ 0 ∷ 0 ∷ []
  -- the second has the stamp (1,2,1,0)
  pub second_stamp : counts 4 (stamp (station_meaning 4) two_entries 1) ≡ 1 ∷ 2 ∷ 1 ∷ 0 ∷ []
  -- a path 0-1, 1-2, 2-3 is regrouped to stars at 1 and 3
  pub path_regrouped : PathExample
  -- a square 0-1, 0-3, 1-2, 2-3 is regrouped to stars at 0, 1 and 3
  pub square_regrouped : SquareExample
  -- two triangles with the route 2-3 between them are regrouped to the two triangles and a star at 2
  pub triangles_regrouped : BridgeExample
  -- the station plans of 3 and 4, joined by a lift from station 1 to station 0: the lift is the route 1-3, on dial 7
  pub lift_dial : (join_meaning (station_meaning 3) (station_meaning 4) 1 0).reply 1 3 ≡ One 7
  -- two station plans of 16 do not fit, whatever the ends of the lift: with the lift's dial there would be 33
  pub too_many_dials : (p q : ℕ) → join_fits (station_meaning 16) (station_meaning 16) p q ≡ false
  -- station plans of 16 and 15 do: there are 32
  pub dials_enough : join_fits (station_meaning 16) (station_meaning 15) 0 0 ≡ true
  -- the sample file is accepted
  pub sample_accepted : file_verdict sample ≡ None
  -- its day settles four of its five handovers; the one of 1 to 3 has no route
  pub sample_entries : day_entries sample ≡ (0, 1) ∷ (3, 2) ∷ (2, 0) ∷ (0, 1) ∷ []
  -- its question 0 is about the handovers 0 and 1
  pub question_0 : question_at sample 0 ≡ (0, 1)
  -- they stand beside each other: no chain leads from one to the other
  pub beside : Stands (day_entries sample) 0 1 Beside
  -- so the line of question 0 is this
  pub beside_line : AskedLine (day_entries sample) (question_at sample) 0 (line (codes "0 1 beside"))
  -- its question 1 is about the handovers 0 and 3
  pub question_1 : question_at sample 1 ≡ (0, 3)
  -- 0 is before 3: a chain leads from 0 to 3
  pub before : Stands (day_entries sample) 0 3 Before
  -- so the line of question 1 is this
  pub before_line : AskedLine (day_entries sample) (question_at sample) 1 (line (codes "0 3 before"))
  -- the whole sheet of the sample file is these lines
  pub whole_sheet : IsSheet sample (flat_map line (handover_lines ++ question_lines))
