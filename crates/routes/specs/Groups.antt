-- Routes in groups: which routes fit a group, and which routes a group must have.
use Rattle.std.specs.Prelude.{ℕ, ◌+◌, Bool, true, ◌&&◌, ◌||◌, List, [], ◌∷◌, length, Option, ◌==◌, nat_lt, slice_index_or}
use Rattle.routes.specs.declared.route.Route.{Route}
use Rattle.routes.specs.declared.route.Group.{Group}
use Rattle.routes.specs.declared.route.Group.TheVariants.{Star, Triangle}
use Rattle.std.specs.List.{list_all, list_any}
use Rattle.routes.specs.Tests.{is_some_and, first_failing}
use Rattle.routes.specs.Order.{no_route}

-- a group's number, 0 for a star and 1 for a triangle, with its stations
abbrev pub told : Group → ℕ × List ℕ
told (Star c) = (0, c ∷ [])
told (Triangle a b c) = (1, a ∷ b ∷ c ∷ [])

-- the route is in the group numbered g
abbrev pub is_in : ℕ → Route → Bool
is_in g r = is_some_and (λ k. k == g) r.group

-- the route goes from a to b
abbrev pub side : ℕ → ℕ → Route → Bool
side a b r = r.low == a && r.high == b

-- the route has the shape of the group: it meets the star's centre, or is a side of the triangle
abbrev pub fits : Group → Route → Bool
fits (Star c) r = r.low == c || r.high == c
fits (Triangle a b c) r = side a b r || (side a c r || side b c r)

-- the route's group is there, and has the route's shape
abbrev pub placed : List Group → Route → Bool
placed gs r = is_some_and (λ g. nat_lt g (length gs) && fits (slice_index_or gs g (Star 0)) r) r.group

-- the same of the route at place i
abbrev pub placed_at : List Route → List Group → ℕ → Bool
placed_at t gs i = placed gs (slice_index_or t i no_route)

-- the place of the first route that is not so
abbrev pub first_misplaced : List Route → List Group → Option ℕ
first_misplaced t gs = first_failing (placed_at t gs) (length t)

-- the group numbered g has the side from a to b
abbrev pub has_side : List Route → ℕ → ℕ → ℕ → Bool
has_side t g a b = list_any (λ r. is_in g r && side a b r) t

-- the group numbered g has the routes that it must have: one at least of a star, the three of a triangle
abbrev pub whole : Group → ℕ → List Route → Bool
whole (Star c) g t = list_any (is_in g) t
whole (Triangle a b c) g t = has_side t g a b && (has_side t g a c && has_side t g b c)

-- the same of the group numbered g of these groups
abbrev pub whole_at : List Route → List Group → ℕ → Bool
whole_at t gs g = whole (slice_index_or gs g (Star 0)) g t

-- the lowest group that is not so
abbrev pub first_incomplete : List Route → List Group → Option ℕ
first_incomplete t gs = first_failing (whole_at t gs) (length gs)

-- the groups ks, numbered from g, are whole
abbrev pub wholes : ℕ → List Group → List Route → Bool
wholes g [] t = true
wholes g (k ∷ ks) t = whole k g t && wholes (g + 1) ks t

-- each route is in one group, which it fits, and each group is whole
abbrev pub decomposed : List Route → List Group → Bool
decomposed t gs = list_all (placed gs) t && wholes 0 gs t
