-- The question of a pair: the route between two stations, and its group.
use Rattle.std.specs.Prelude.{◌≡◌, ℕ, ◌<◌, min, max, ◌↔◌, List, length, Some, None, Option, find, option_and_then, slice_index_or}
use Rattle.routes.specs.declared.route.Route.{Route}
use Rattle.routes.specs.Order.{no_route, pair}
use Rattle.routes.specs.Groups.{side}
use Rattle.routes.specs.Decomposition.{Joined}

-- the route from a to b
abbrev pub route_from : List Route → ℕ → ℕ → Option Route
route_from t a b = find (side a b) t

-- the group of a route that was found, where it has one
abbrev pub group_of : Option Route → Option ℕ
group_of o = option_and_then (λ r. r.group) o

-- the route between a and b, in either order, and its group
abbrev pub route_between : List Route → ℕ → ℕ → Option Route
route_between t a b = route_from t (min a b) (max a b)

abbrev pub between : List Route → ℕ → ℕ → Option ℕ
between t a b = group_of (route_between t a b)

-- r is a route of the table, and joins the stations a and b, in either order
abbrev pub IsBetween : List Route → ℕ → ℕ → Route → Type 0
IsBetween t a b r = (i : ℕ) × (i < length t) × (slice_index_or t i no_route ≡ r) × (pair r ≡ (min a b, max a b))

-- a route of the group g joins the stations a and b, in either order
abbrev pub Joins : List Route → ℕ → ℕ → ℕ → Type 0
Joins t a b g = Joined t g (min a b, max a b)

-- what the question of a pair finds: a route exactly where it joins the two, and none exactly where no route does;
-- and what it answers: g exactly where a route of the group g joins the two, and none exactly where no route of a group does
pub record PairLaw (t : List Route) (a b : ℕ) : Type 0 where
  pub found : (r : Route) → (route_between t a b ≡ Some r) ↔ IsBetween t a b r
  pub missing : (route_between t a b ≡ None) ↔ ((r : Route) → ¬ (IsBetween t a b r))
  pub some : (g : ℕ) → (between t a b ≡ Some g) ↔ Joins t a b g
  pub none : (between t a b ≡ None) ↔ ((g : ℕ) → ¬ (Joins t a b g))
