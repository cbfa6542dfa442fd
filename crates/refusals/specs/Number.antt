-- The number of each refusal, by which users know it, and the refusal of each number.
use Rattle.std.specs.Prelude.{ℕ, List, [], ◌∷◌, map, Some, None, Option, slice_index_or}
use Rattle.refusals.specs.declared.Refusal.{Refusal}
use Rattle.refusals.specs.declared.Refusal.TheVariants.{FileLength, SectionOffset, SectionLength, Limit, RouteOrder, GroupRecord, RouteGroup, GroupIncomplete, NoStation, SameStation, NoRoute, Busy, BookFull, NotPending, NotSettled, TooShort, JoinUnfit}

-- the number of a refusal, 1 to 17
abbrev pub number : Refusal → ℕ
number FileLength = 1
number SectionOffset = 2
number SectionLength = 3
number Limit = 4
number RouteOrder = 5
number GroupRecord = 6
number RouteGroup = 7
number GroupIncomplete = 8
number NoStation = 9
number SameStation = 10
number NoRoute = 11
number Busy = 12
number BookFull = 13
number NotPending = 14
number NotSettled = 15
number TooShort = 16
number JoinUnfit = 17

-- all refusals, from number 1 upward
abbrev pub refusals : List Refusal
refusals = FileLength ∷ SectionOffset ∷ SectionLength ∷ Limit ∷ RouteOrder ∷ GroupRecord ∷ RouteGroup ∷ GroupIncomplete ∷ NoStation ∷ SameStation ∷ NoRoute ∷ Busy ∷ BookFull ∷ NotPending ∷ NotSettled ∷ TooShort ∷ JoinUnfit ∷ []

-- the refusal that has a number; none has 0 or a number past 17
abbrev pub refusal_of : ℕ → Option Refusal
refusal_of k = slice_index_or (None ∷ map Some refusals) k None
