-- The tables of a day file: its routes and groups, out of their records.
use Rattle.std.specs.Prelude.{◌≡◌, ◌<◌, length, ℕ, ◌+◌, ◌*◌, ◌/◌, Bool, cond, ◌&&◌, ◌||◌, List, map, Some, None, Option, ◌==◌, nat_lt, slice_index}
use Rattle.std.specs.List.{range_with_len}
use Rattle.routes.specs.declared.route.Route.{Route}
use Rattle.routes.specs.declared.route.Group.{Group}
use Rattle.routes.specs.declared.route.Group.TheVariants.{Star, Triangle}
use Rattle.routes.specs.Tests.{first_failing}
use Rattle.dayfile.specs.Layout.{word, station_count}

-- the record r stands in the file bs from place p on
abbrev pub Stands : List ℕ → List ℕ → ℕ → Type 0
Stands r bs p = (k : ℕ) → k < length r → slice_index r k ≡ slice_index bs (p + k)

-- how many routes the file has
abbrev pub route_count : List ℕ → ℕ
route_count bs = word bs 4 / 3

-- where the record of route i begins
abbrev pub route_place : List ℕ → ℕ → ℕ
route_place bs i = word bs 2 + 3 * i

-- the group that a route's third byte names: 255 stands for none
abbrev pub group_named : ℕ → Option ℕ
group_named b = cond (b == 255) None (Some b)

-- route i: its lower end, its higher end, its group
unfoldable pub route_at : List ℕ → ℕ → Route
route_at bs i =
    record { low = slice_index bs (route_place bs i); high = slice_index bs (route_place bs i + 1); group = group_named (slice_index bs (route_place bs i + 2)) }

-- the routes of the file, in their order
unfoldable pub routes_of : List ℕ → List Route
routes_of bs = map (route_at bs) (range_with_len 0 (route_count bs))

-- how many groups the file gives
abbrev pub group_count : List ℕ → ℕ
group_count bs = word bs 8 / 4

-- where the record of group g begins
abbrev pub group_place : List ℕ → ℕ → ℕ
group_place bs g = word bs 6 + 4 * g

-- byte k of the record of group g
unfoldable pub group_byte : List ℕ → ℕ → ℕ → ℕ
group_byte bs g k = slice_index bs (group_place bs g + k)

-- group g: a triangle where its kind is 1, else a star
unfoldable pub group_at : List ℕ → ℕ → Group
group_at bs g =
    cond (group_byte bs g 0 == 1) (Triangle (group_byte bs g 1) (group_byte bs g 2) (group_byte bs g 3)) (Star (group_byte bs g 1))

-- the groups of the file, in their order
unfoldable pub groups_of : List ℕ → List Group
groups_of bs = map (group_at bs) (range_with_len 0 (group_count bs))

-- the record of group g is a star's: kind 0, a station, two filler bytes
abbrev pub star_record : List ℕ → ℕ → Bool
star_record bs g =
    (group_byte bs g 0 == 0) && (nat_lt (group_byte bs g 1) (station_count bs) && (group_byte bs g 2 == 0 && group_byte bs g 3 == 0))

-- the record of group g is a triangle's: kind 1, three stations that ascend
abbrev pub triangle_record : List ℕ → ℕ → Bool
triangle_record bs g =
    (group_byte bs g 0 == 1)
    && (nat_lt (group_byte bs g 1) (group_byte bs g 2) && (nat_lt (group_byte bs g 2) (group_byte bs g 3) && nat_lt (group_byte bs g 3) (station_count bs)))

-- the record of group g is one or the other
unfoldable pub is_group_record : List ℕ → ℕ → Bool
is_group_record bs g = star_record bs g || triangle_record bs g

-- the first group whose record is neither
unfoldable pub first_no_group : List ℕ → Option ℕ
first_no_group bs = first_failing (is_group_record bs) (group_count bs)
