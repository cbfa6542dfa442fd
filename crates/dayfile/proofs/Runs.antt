-- The records of a kind, one after the other: the next, and the end.
use Rattle.std.proofs.Common.{◌≡◌, ℕ, suc, ◌+◌, ◌-◌, ◌<◌, ◌≤◌, cond, nat_lt, List, [], ◌∷◌, map, length, Some, None, Option, Ok, Err, Result, IfOk, Bor, refl, ◌∙◌, arith}
use Rattle.std.proofs.lemmas.Bool.Decides.{nat_tests}
use Rattle.std.specs.List.{range_with_len}
use Rattle.std.proofs.lemmas.List.FromFn.{length-map-range_with_len, get_or-map-range_with_len}
use Rattle.std.specs.Iterator.{Yields, YieldsFirstBy}
use Rattle.std.proofs.lemmas.Iterator.{YieldsList}
use Rattle.std.proofs.lemmas.Iterator.Consumers.{YieldsList-from_first, YieldsList-turn, YieldsList-end}
use Rattle.dayfile.specs.declared.file.DayFile.{DayFile}
use Rattle.dayfile.specs.declared.layout.Layout.{Layout}
use Rattle.dayfile.specs.declared.records.Record.{Record}
use Rattle.dayfile.specs.declared.records.Records.{Records}
use Rattle.dayfile.specs.declared.records.Kind.TheVariants.{Routes, Groups, Handovers, Questions}
use Rattle.dayfile.specs.Verdict.{verdict_of}
use Rattle.dayfile.specs.Layout.{Reads}
use Rattle.dayfile.specs.declared.records.Kind.{Kind}
use Rattle.dayfile.specs.declared.refusal.FileRefusal.{FileRefusal}
use Rattle.dayfile.specs.Check.{file_verdict}
use Rattle.dayfile.specs.Records.{Part, if_accepted, record_count, file_record, record_at, count_from, records_from, records_left, most_records, told_record}

module _ (f : Bor (List ℕ)) (k : Kind) (i : ℕ) where
  -- an index that has a record is below the count, which falls by one with it
  below_count : {x : ℕ × Part} → Some x ≡ cond (nat_lt i (record_count f.now k)) (Some (file_record f k i)) None → (i < record_count f.now k) × (x ≡ file_record f k i)
  below_count e = (grind (arith, nat_tests), grind (arith, nat_tests))

  past_count : None ≡ cond (nat_lt i (record_count f.now k)) (Some (file_record f k i)) None → record_count f.now k ≤ i
  past_count e = grind (arith, nat_tests)

  step : (v : Option FileRefusal) {x : ℕ × Part} → Some x ≡ if_accepted v (cond (nat_lt i (record_count f.now k)) (Some (file_record f k i)) None)
      → map (file_record f k) (range_with_len i (count_from v f.now k i)) ≡ x ∷ map (file_record f k) (range_with_len (i + 1) (count_from v f.now k (i + 1)))
  step None e =
      let b = below_count e in
      let n : record_count f.now k - i ≡ suc (record_count f.now k - (i + 1)) = omega (arith, b.0) in simp (n, b.1)
  step (Some r) e = cc

  end : (v : Option FileRefusal) → None ≡ if_accepted v (cond (nat_lt i (record_count f.now k)) (Some (file_record f k i)) None) → map (file_record f k) (range_with_len i (count_from v f.now k i)) ≡ []
  end None e = let n : record_count f.now k - i ≡ 0 = omega (arith, past_count e) in simp n
  end (Some r) e = refl

  pub next_record : {x : ℕ × Part} → Some x ≡ record_at f k i → records_from f k i ≡ x ∷ records_from f k (i + 1)
  unfolding records_from
  next_record e = step (file_verdict f.now) e

  pub no_record : None ≡ record_at f k i → records_from f k i ≡ []
  unfolding records_from
  no_record e = end (file_verdict f.now) e

-- ---- a loop over the records of a kind, in a file without a refusal
-- at most so many as a file can have
few_held : (bs : List ℕ) (r : Result Layout FileRefusal) → verdict_of r ≡ None → IfOk r (Reads bs) → (k : Kind) → record_count bs k ≤ most_records k
few_held bs (Ok l) e h Routes = omega (arith, h.1.1, h.1.4)
few_held bs (Ok l) e h Groups = omega (arith, h.2.1, h.2.4)
few_held bs (Ok l) e h Handovers = omega (arith, h.3.1, h.3.4)
few_held bs (Ok l) e h Questions = omega (arith, h.4.1, h.4.4)
few_held bs (Err x) e h k = cc

pub few_records : (file : DayFile) (k : Kind) → file_verdict file.bytes.now ≡ None → record_count file.bytes.now k ≤ most_records k
few_records file k a = few_held file.bytes.now file.layout (file.verdict ∙ a) file.reads k

abbrev steps : Records → Option Record → Records → Type 0
steps = YieldsFirstBy told_record records_left

module _ (f : Bor (List ℕ)) (k : Kind) (a : file_verdict f.now ≡ None) where
  count_is : count_from (file_verdict f.now) f.now k 0 ≡ record_count f.now k
  count_is = simp a (omega arith)

  long : length (records_from f k 0) ≡ record_count f.now k
  unfolding records_from
  long = length-map-range_with_len (file_record f k) 0 _ ∙ count_is

  module _ (s : Records) (is-s : records_left s ≡ records_from f k 0) where
    yields : YieldsList steps told_record s (records_from f k 0)
    yields = YieldsList-from_first told_record records_left {s = s} (records_from f k 0) is-s

    -- where n records have been taken, the next is record n
    pub turn_record : (xs : List Record) (t : Records) → Yields steps s xs t → (r : Option Record) (u : Records) (x : Record) → r ≡ Some x → steps t r u
        → (length xs < record_count f.now k) × (told_record x ≡ file_record f k (length xs))
    unfolding records_from
    turn_record xs t y r u x e h =
        let q = YieldsList-turn yields xs t y r u x e h in
        let l : length xs < record_count f.now k = omega (arith, q.0, long) in
        (l, q.1 ∙ get_or-map-range_with_len (file_record f k) 0 _ (length xs) (length xs) (told_record x) (omega (arith, l, count_is)) (omega arith))

    -- at the end all have been taken
    pub end_records : (xs : List Record) (t : Records) → Yields steps s xs t → (r : Option Record) (u : Records) → r ≡ None → steps t r u → length xs ≡ record_count f.now k
    end_records xs t y r u e h = (YieldsList-end yields xs t y r u e h).1 ∙ long
