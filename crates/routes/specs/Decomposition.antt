-- What an edge decomposition is: a partition of the routes into parts, each with at least one route, each a star or a triangle.
-- A route names the number of its part, so it is in that part and in no other; the part of number g has the g-th record.
use Rattle.std.specs.Prelude.{◌≡◌, ℕ, ◌<◌, ◌⊎◌, List, length, get_or, IsSomeAnd, Some, slice_index_or}
use Rattle.routes.specs.declared.route.Route.{Route}
use Rattle.routes.specs.declared.route.Group.{Group}
use Rattle.routes.specs.declared.route.Group.TheVariants.{Star, Triangle}
use Rattle.routes.specs.Order.{no_route, pair}

-- there is a route at place i, and it is in the part numbered g
abbrev pub Member : List Route → ℕ → ℕ → Type 0
Member t g i = (i < length t) × ((get_or t i no_route).group ≡ Some g)

-- the two stations are the ends of a route of the part numbered g
abbrev pub Joined : List Route → ℕ → ℕ × ℕ → Type 0
Joined t g e = (i : ℕ) × Member t g i × (pair (slice_index_or t i no_route) ≡ e)

-- the ends are one of the three pairs of the stations a, b and c
abbrev pub Side : ℕ → ℕ → ℕ → ℕ × ℕ → Type 0
Side a b c e = (e ≡ (a, b)) ⊎ ((e ≡ (a, c)) ⊎ (e ≡ (b, c)))

-- the part numbered g has the shape that a record says
-- a star: every route of the part meets the centre
-- a triangle: the part's routes are exactly the three between its stations, none other and none lacking
abbrev pub Shaped : List Route → ℕ → Group → Type 0
Shaped t g (Star c) = (i : ℕ) → Member t g i → ((get_or t i no_route).low ≡ c) ⊎ ((get_or t i no_route).high ≡ c)
Shaped t g (Triangle a b c) =
    ((i : ℕ) → Member t g i → Side a b c (pair (slice_index_or t i no_route))) × Joined t g (a, b) × Joined t g (a, c) × Joined t g (b, c)

-- the routes of the table t, each of which names its part, and the parts' records gs
pub record Decomposition (t : List Route) (gs : List Group) : Type 0 where
  -- every route is in one of the parts
  pub covered : (i : ℕ) → i < length t → IsSomeAnd (get_or t i no_route).group (λ g. g < length gs)
  -- every part has a route
  pub inhabited : (g : ℕ) → g < length gs → (i : ℕ) × Member t g i
  -- every part has the shape that its record says
  pub shaped : (g : ℕ) → g < length gs → Shaped t g (slice_index_or gs g (Star 0))
