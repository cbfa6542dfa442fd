-- The records of a day file: which part of the file each one is.
use Rattle.std.specs.Prelude.{ℕ, ◌+◌, ◌-◌, ◌*◌, ◌/◌, cond, List, map, length, take, drop, Some, None, Option, nat_lt}
use Rattle.std.specs.Borrow.{Bor}
use Rattle.std.specs.List.{range_with_len}
use Rattle.dayfile.specs.declared.records.Kind.{Kind}
use Rattle.dayfile.specs.declared.records.Kind.TheVariants.{Routes, Groups, Handovers, Questions}
use Rattle.dayfile.specs.declared.records.Record.{Record}
use Rattle.dayfile.specs.declared.records.Record.TheVariants.{Route, Group, Handover, Question}
use Rattle.dayfile.specs.declared.records.Records.{Records}
use Rattle.dayfile.specs.declared.refusal.FileRefusal.{FileRefusal}
use Rattle.dayfile.specs.Layout.{word}
use Rattle.dayfile.specs.Check.{file_verdict}

-- each kind's number
abbrev pub kind_number : Kind → ℕ
kind_number Routes = 0
kind_number Groups = 1
kind_number Handovers = 2
kind_number Questions = 3

-- how many bytes a record of the kind has
abbrev pub record_size : Kind → ℕ
record_size Routes = 3
record_size Groups = 4
record_size Handovers = 2
record_size Questions = 4

-- how many records of the kind a file can have at most
abbrev pub most_records : Kind → ℕ
most_records Routes = 496
most_records Groups = 32
most_records Handovers = 1000
most_records Questions = 1000

-- where the kind's pair of offset and length stands
abbrev pub pair_place : Kind → ℕ
pair_place k = 2 + 4 * kind_number k

-- how many records of the kind a file has
abbrev pub record_count : List ℕ → Kind → ℕ
record_count bs k = word bs (pair_place k + 2) / record_size k

-- where in the file record i of the kind begins
abbrev pub record_place : List ℕ → Kind → ℕ → ℕ
record_place bs k i = word bs (pair_place k) + record_size k * i

-- a part of memory: where its first byte lies (a block, and a place in it), how many bytes it has, and these bytes
abbrev pub Part : Type 0
Part = (ℕ × ℕ) × ℕ × List ℕ

-- the part that a borrow of bytes is of
abbrev pub part_of : Bor (List ℕ) → Part
part_of b = (b.ref_ptr, length b.now, b.now)

-- the part of a file that begins at `start` and has `size` bytes
abbrev pub part_at : Bor (List ℕ) → ℕ → ℕ → Part
part_at f start size = ((f.ref_ptr.0, start + f.ref_ptr.1), size, take size (drop start f.now))

-- a record's kind, by its number, and its part of the file
abbrev pub told_record : Record → ℕ × Part
told_record (Route b) = (0, part_of b)
told_record (Group b) = (1, part_of b)
told_record (Handover b) = (2, part_of b)
told_record (Question b) = (3, part_of b)

-- the same of a record that may be there
abbrev pub told_if : Option Record → Option (ℕ × Part)
told_if None = None
told_if (Some r) = Some (told_record r)

-- an answer that only a file without a refusal gives
abbrev pub if_accepted : {X : Type 0} → Option FileRefusal → Option X → Option X
if_accepted None x = x
if_accepted (Some e) x = None

-- record i of the kind in a file: the kind's number, and the part of the file that it is
abbrev pub file_record : Bor (List ℕ) → Kind → ℕ → ℕ × Part
file_record f k i = (kind_number k, part_at f (record_place f.now k i) (record_size k))

-- record i of the kind: none past the last, and none of a refused file
abbrev pub record_at : Bor (List ℕ) → Kind → ℕ → Option (ℕ × Part)
record_at f k i = if_accepted (file_verdict f.now) (cond (nat_lt i (record_count f.now k)) (Some (file_record f k i)) None)

-- how many records of the kind are left from i on: none of a refused file
abbrev pub count_from : Option FileRefusal → List ℕ → Kind → ℕ → ℕ
count_from None bs k i = record_count bs k - i
count_from (Some e) bs k i = 0

-- record i of the kind and those after it, in order, to the last; none of a refused file
unfoldable pub records_from : Bor (List ℕ) → Kind → ℕ → List (ℕ × Part)
records_from f k i = map (file_record f k) (range_with_len i (count_from (file_verdict f.now) f.now k i))

-- the records that an iterator has left
abbrev pub records_left : Records → List (ℕ × Part)
records_left s = records_from s.file.bytes s.kind s.index
