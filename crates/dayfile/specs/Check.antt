-- The check of a day file: the first check that fails, in order.
use Rattle.std.specs.Prelude.{◌≡◌, ℕ, ◌<◌, Bool, cond, List, length, is_ok, is_none, None, Decides, Option, Result, ◌==◌, slice_index_or}
use Rattle.refusals.specs.declared.Refusal.TheVariants.{RouteOrder, GroupRecord, RouteGroup, GroupIncomplete}
use Rattle.routes.specs.declared.route.Route.{Route}
use Rattle.routes.specs.declared.route.Group.{Group}
use Rattle.routes.specs.Tests.{first_failing}
use Rattle.routes.specs.Order.{no_route, first_unordered}
use Rattle.routes.specs.Groups.{first_misplaced, first_incomplete}
use Rattle.routes.specs.Decomposition.{Decomposition}
use Rattle.dayfile.specs.declared.refusal.FileRefusal.{FileRefusal}
use Rattle.dayfile.specs.Verdict.{refuse_at, and_then}
use Rattle.dayfile.specs.Layout.{word, station_count, layout_verdict}
use Rattle.dayfile.specs.Tables.{routes_of, group_count, groups_of, first_no_group}

-- each route is between two stations, and after the one ahead of it
unfoldable pub order_verdict : List ℕ → Option FileRefusal
order_verdict bs = refuse_at RouteOrder (word bs 2) 3 (first_unordered (station_count bs) (routes_of bs))

-- each group's record is a star's or a triangle's
unfoldable pub record_verdict : List ℕ → Option FileRefusal
record_verdict bs = refuse_at GroupRecord (word bs 6) 4 (first_no_group bs)

-- the route at place i names no group
abbrev pub groupless_at : List Route → ℕ → Bool
groupless_at t i = is_none (slice_index_or t i no_route).group

-- the first route that names a group
unfoldable pub first_grouped : List Route → Option ℕ
first_grouped t = first_failing (groupless_at t) (length t)

-- the first route that does not fit the groups: with none given, one that names a group, else one whose group is not there or has not its shape
unfoldable pub first_unfit : List Route → List Group → Option ℕ
first_unfit t gs = cond (length gs == 0) (first_grouped t) (first_misplaced t gs)

-- each route fits the groups
unfoldable pub member_verdict : List ℕ → Option FileRefusal
member_verdict bs = refuse_at RouteGroup (word bs 2) 3 (first_unfit (routes_of bs) (groups_of bs))

-- each star has a route, each triangle its three
unfoldable pub whole_verdict : List ℕ → Option FileRefusal
whole_verdict bs = refuse_at GroupIncomplete (word bs 6) 4 (first_incomplete (routes_of bs) (groups_of bs))

-- the checks before the groups are held against the routes: the layout, then the order of the routes, then the groups' records
unfoldable pub tables_verdict : List ℕ → Option FileRefusal
tables_verdict bs = and_then (layout_verdict bs) (and_then (order_verdict bs) (record_verdict bs))

-- the whole check, in order
unfoldable pub file_verdict : List ℕ → Option FileRefusal
file_verdict bs = and_then (tables_verdict bs) (and_then (member_verdict bs) (whole_verdict bs))

-- a file that passes the checks before and gives groups is accepted exactly when its groups are an edge decomposition of its routes
abbrev pub JudgesGroups : {X : Type 0} → List ℕ → Result X FileRefusal → Type 0
JudgesGroups bs r =
    tables_verdict bs ≡ None → 0 < group_count bs → Decides (is_ok r) (Decomposition (routes_of bs) (groups_of bs))
