-- The order of routes: by the lower end, then by the higher.
use Rattle.std.specs.Prelude.{ℕ, ◌-◌, Bool, true, ◌&&◌, ◌||◌, List, [], ◌∷◌, map, length, None, Option, ◌==◌, nat_lt, slice_index_or}
use Rattle.routes.specs.declared.route.Route.{Route}
use Rattle.std.specs.List.{list_all}
use Rattle.routes.specs.Tests.{first_failing}

-- what is read past the end of a table
abbrev pub no_route : Route
no_route = record { low = 0; high = 0; group = None }

-- the ends of a route, the lower first
abbrev pub pair : Route → ℕ × ℕ
pair r = (r.low, r.high)

-- the ends of each route
abbrev pub ends : List Route → List (ℕ × ℕ)
ends t = map pair t

-- by the lower end, then by the higher
abbrev pub before : ℕ × ℕ → ℕ × ℕ → Bool
before d e = nat_lt d.0 e.0 || (d.0 == e.0 && nat_lt d.1 e.1)

-- two stations below n, the lower first
abbrev pub inside : ℕ → ℕ × ℕ → Bool
inside n e = nat_lt e.0 e.1 && nat_lt e.1 n

abbrev pub ascending : List (ℕ × ℕ) → Bool
ascending [] = true
ascending (e ∷ es) = list_all (before e) es && ascending es

-- the routes are between stations below n, and ascend strictly
abbrev pub ordered : ℕ → List (ℕ × ℕ) → Bool
ordered n es = list_all (inside n) es && ascending es

-- the route at place i is between two stations below n, and after the one ahead of it
abbrev pub in_order : ℕ → List Route → ℕ → Bool
in_order n t i = inside n (pair (slice_index_or t i no_route)) && (i == 0 || before (pair (slice_index_or t (i - 1) no_route)) (pair (slice_index_or t i no_route)))

-- the place of the first route that is not in order
abbrev pub first_unordered : ℕ → List Route → Option ℕ
first_unordered n t = first_failing (in_order n t) (length t)
