-- How the routes are grouped: the three rules, as a run over the routes and the groups written so far.
use Rattle.std.specs.Prelude.{◌≡◌, ℕ, zero, suc, ◌+◌, ◌<◌, ◌≤◌, Bool, true, cond, ◌&&◌, List, [], ◌∷◌, ◌++◌, map, length, Some, None, ◌==◌, slice_index_or}
use Rattle.routes.specs.declared.route.Route.{Route}
use Rattle.routes.specs.declared.route.Group.{Group}
use Rattle.routes.specs.declared.route.Group.TheVariants.{Star, Triangle}
use Rattle.std.specs.List.{list_any}
use Rattle.routes.specs.Order.{no_route, ends, ordered}
use Rattle.routes.specs.Groups.{fits}
use Rattle.regrouping.specs.Table.{remaining, on, degree, leaf, triangle, best, answer}

-- the routes, and the groups written so far
pub record Work : Type 0 where
  pub table : List Route
  pub groups : List Group

-- these routes with these groups
abbrev pub work : List Route → List Group → Work
work t gs = record { table = t; groups = gs }

-- the route with the group g
abbrev pub in_group : ℕ → Route → Route
in_group g r = record r { group = Some g }

-- a remaining route that fits k gets the group g
abbrev pub marked : Group → ℕ → Route → Route
marked k g r = cond (remaining r && fits k r) (in_group g r) r

-- the same for each route of a table
abbrev pub mark : Group → ℕ → List Route → List Route
mark k g t = map (marked k g) t

-- a group is written, with all remaining routes that fit it
abbrev pub write : Group → Work → Work
write k w = work (mark k (length w.groups) w.table) (w.groups ++ k ∷ [])

-- the other end of the first remaining route of s
abbrev pub mate : List Route → ℕ → ℕ
mate [] s = s
mate (r ∷ rs) s = cond (on s r) (cond (r.low == s) r.high r.low) (mate rs s)

-- the leaf rule over n stations, at most k times: a star at the other end of the leaf's route
abbrev pub leaves : ℕ → ℕ → Work → Work
leaves zero n w = w
leaves (suc k) n w = answer (leaf w.table n) w (λ s. leaves k n (write (Star (mate w.table s)) w))

-- the loose triangle rule, at most k times: the first loose triangle
abbrev pub triangles : ℕ → ℕ → Work → Work
triangles zero n w = w
triangles (suc k) n w = answer (triangle w.table n) w (λ t. triangles k n (write (Triangle t.0 t.1 t.2) w))

-- a star at c; none where c has no remaining route
abbrev pub star : ℕ → Work → Work
star c w = cond (degree w.table c == 0) w (write (Star c) w)

-- a star at the lower end of the route, then one at the higher
abbrev pub both : Route → Work → Work
both r w = star r.high (star r.low w)

-- the heaviest route rule, once
abbrev pub heaviest : Work → Work
heaviest w = answer (best w.table) w (λ i. both (slice_index_or w.table i no_route) w)

-- the three rules in turn
abbrev pub round : ℕ → Work → Work
round n w = heaviest (triangles n n (leaves n n w))

-- whether a route remains
abbrev pub some_open : List Route → Bool
some_open t = list_any remaining t

-- the three rules in turn while routes remain, at most k times
abbrev pub rounds : ℕ → ℕ → Work → Work
rounds zero n w = w
rounds (suc k) n w = cond (some_open w.table) (rounds k n (round n w)) w

-- the route without a group
abbrev pub ungrouped : Route → Route
ungrouped r = record r { group = None }

-- all routes remain
abbrev pub opened : List Route → List Route
opened t = map ungrouped t

-- no route has a group, and no group is written
abbrev pub start : List Route → Work
start t = work (opened t) []

-- the routes of a table over n stations, grouped anew
abbrev pub regrouped : ℕ → List Route → Work
regrouped n t = rounds n n (start t)

-- how many stations below n have a remaining route
abbrev pub live : List Route → ℕ → ℕ
live t zero = 0
live t (suc n) = cond (degree t n == 0) 0 1 + live t n

-- two stations below n, the lower first
abbrev pub Inside : ℕ → Route → Type 0
Inside n r = (r.low < r.high) × (r.high < n)

-- what every step keeps: the routes are in order, and there is room for one group for each station with a remaining route
pub record Ready (n : ℕ) (w : Work) : Type 0 where
  pub stations : n ≤ 32
  pub ordered : ordered n (ends w.table) ≡ true
  pub short : length w.table ≤ 496
  pub room : length w.groups + live w.table n ≤ 32
