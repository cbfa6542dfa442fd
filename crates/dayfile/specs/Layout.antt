-- The layout of a day file: how many stations, and where its four sections are.
use Rattle.std.specs.Prelude.{◌≡◌, ℕ, ◌+◌, ◌*◌, ◌/◌, ◌%◌, ◌≤◌, not, ◌||◌, List, length, Option, ◌==◌, nat_lt, slice_index}
use Rattle.refusals.specs.declared.Refusal.TheVariants.{FileLength, SectionOffset, SectionLength, Limit}
use Rattle.dayfile.specs.declared.layout.Section.{Section}
use Rattle.dayfile.specs.declared.section.Span.{Span}
use Rattle.dayfile.specs.declared.layout.Layout.{Layout}
use Rattle.dayfile.specs.declared.refusal.FileRefusal.{FileRefusal}
use Rattle.dayfile.specs.Verdict.{refuse_if, and_then}

-- two bytes from place i, low byte first
abbrev pub word : List ℕ → ℕ → ℕ
word bs i = slice_index bs i + slice_index bs (i + 1) * 256

-- where the section of the pair at place p ends
abbrev pub end_of : List ℕ → ℕ → ℕ
end_of bs p = word bs p + word bs (p + 2)

-- the number of stations
abbrev pub station_count : List ℕ → ℕ
station_count bs = slice_index bs 0

-- the pair at place p, whose section may start at `from`, has records of `size` bytes and at most `most` of them
unfoldable pub pair_verdict : List ℕ → ℕ → ℕ → ℕ → ℕ → Option FileRefusal
pair_verdict bs p from size most =
    and_then (refuse_if (nat_lt (word bs p) from || nat_lt (length bs) (end_of bs p)) SectionOffset p)
    (and_then (refuse_if (not (word bs (p + 2) % size == 0)) SectionLength p)
    (refuse_if (nat_lt (most * size) (word bs (p + 2))) Limit p))

-- the length, bytes 0 and 1, and the four pairs, in order
unfoldable pub layout_verdict : List ℕ → Option FileRefusal
layout_verdict bs =
    and_then (refuse_if (nat_lt (length bs) 18 || nat_lt 8192 (length bs)) FileLength 0)
    (and_then (refuse_if (station_count bs == 0 || nat_lt 32 (station_count bs)) Limit 0)
    (and_then (refuse_if (not (slice_index bs 1 == 0)) Limit 1)
    (and_then (pair_verdict bs 2 18 3 496)
    (and_then (pair_verdict bs 6 (end_of bs 2) 4 32)
    (and_then (pair_verdict bs 10 (end_of bs 6) 2 1000)
    (pair_verdict bs 14 (end_of bs 10) 4 1000))))))

-- s is the section of the pair at place p, with at most `most` records of `size` bytes, and lies in the file
abbrev pub Holds : List ℕ → ℕ → ℕ → ℕ → Section → Type 0
Holds bs p size most s =
    (s.start ≡ word bs p) × (s.count ≡ word bs (p + 2) / size) × (s.count * size ≡ word bs (p + 2)) × (s.start + s.count * size ≤ length bs) × (s.count ≤ most)

-- the same of a section with the size of its records
abbrev pub Spans : List ℕ → ℕ → ℕ → ℕ → Span → Type 0
Spans bs p size most s = Holds bs p size most (record { start = s.start; count = s.count }) × (s.size ≡ size)

-- l is what the first 18 bytes say
abbrev pub Reads : List ℕ → Layout → Type 0
Reads bs l =
    ((length bs ≤ 8192) × (l.stations ≡ station_count bs) × (l.stations ≤ 32)) × Holds bs 2 3 496 l.routes × Holds bs 6 4 32 l.groups × Holds bs 10 2 1000 l.handovers × Holds bs 14 4 1000 l.questions
