-- What a person is told of each refusal: why it came, and what to do. docs/REFUSALS.md has the same words.
use Rattle.std.specs.Prelude.{ℕ, List, codes}
use Rattle.refusals.specs.declared.Refusal.{Refusal}
use Rattle.refusals.specs.declared.Refusal.TheVariants.{FileLength, SectionOffset, SectionLength, Limit, RouteOrder, GroupRecord, RouteGroup, GroupIncomplete, NoStation, SameStation, NoRoute, Busy, BookFull, NotPending, NotSettled, TooShort, JoinUnfit}

-- the words, byte by byte
abbrev pub advice : Refusal → List ℕ
advice FileLength = codes "The file is shorter than 18 bytes or longer than 8,192. Send the whole file, and one day in each."
advice SectionOffset = codes "A section starts before byte 18, before the end of the section ahead of it, or ends past the file. Mend the offset and length at the place."
advice SectionLength = codes "A section's length is no multiple of its record's: 3 for routes, 4 for groups, 2 for handovers, 4 for questions. Mend the length at the place."
advice Limit = codes "Byte 0 is not 1 to 32, byte 1 is not 0, or a section has too many records. Mend the byte, or split the day."
advice RouteOrder = codes "A route's lower end is not below its higher, its higher end is not a station, or it does not come after the route ahead of it. Write each route once, lower end first, in ascending order."
advice GroupRecord = codes "A group's kind, a station of it or a filler byte is wrong. Write `0 centre 0 0` or `1 a b c` with a < b < c, all stations below n."
advice RouteGroup = codes "A route names a group that is not there, or whose shape it does not fit; or it does not have 255 where no groups are given. Name the route's group, or leave all groups out and write 255."
advice GroupIncomplete = codes "A star has no route, or a triangle lacks one of its three. Take the group out, or give it its routes."
advice NoStation = codes "A station number is not below the number of stations. Name a station of the floor."
advice SameStation = codes "The giver is the taker. Name two stations."
advice NoRoute = codes "The plan has no such route. Hand over by stations that have a route."
advice Busy = codes "A station is not free: it gives or takes in a pending offer. Settle or withdraw that offer first."
advice BookFull = codes "Settled and pending handovers make 1,000. Withdraw what is pending, or open a new book."
advice NotPending = codes "The offer is not pending here: its giver is not marked as giving to its taker, or the taker not as taking from it. Bring the offer to its own floor. A settlement hands it back; a withdrawal has spent it."
advice NotSettled = codes "A handover number that is not settled yet. Ask for a number below that of the settled handovers."
advice TooShort = codes "The list has fewer places than the plan has dials, or the buffer is shorter than the line. Lend a longer one."
advice JoinUnfit = codes "A join does not fit: too many stations or dials, or a lift end that is no station of its half. Join smaller plans, or name other lift ends."
