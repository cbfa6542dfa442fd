-- Three tables of routes, and how they are grouped.
use Rattle.std.specs.Prelude.{◌≡◌, ℕ, [], ◌∷◌, Some}
use Rattle.routes.specs.declared.route.Route.{Route}
use Rattle.routes.specs.declared.route.Group.TheVariants.{Star, Triangle}
use Rattle.regrouping.specs.Steps.{work, regrouped}

-- the route from a to b with the group g
abbrev pub r : ℕ → ℕ → ℕ → Route
r a b g = record { low = a; high = b; group = Some g }

-- a path of three routes
abbrev pub PathExample : Type 0
PathExample = regrouped 4 (r 0 1 0 ∷ r 1 2 0 ∷ r 2 3 0 ∷ []) ≡ work (r 0 1 0 ∷ r 1 2 0 ∷ r 2 3 1 ∷ []) (Star 1 ∷ Star 3 ∷ [])

-- a square
abbrev pub SquareExample : Type 0
SquareExample = regrouped 4 (r 0 1 0 ∷ r 0 3 0 ∷ r 1 2 0 ∷ r 2 3 0 ∷ []) ≡ work (r 0 1 0 ∷ r 0 3 0 ∷ r 1 2 1 ∷ r 2 3 2 ∷ []) (Star 0 ∷ Star 1 ∷ Star 3 ∷ [])

-- two triangles with a route between them
abbrev pub BridgeExample : Type 0
BridgeExample =
    regrouped 6 (r 0 1 0 ∷ r 0 2 0 ∷ r 1 2 0 ∷ r 2 3 0 ∷ r 3 4 0 ∷ r 3 5 0 ∷ r 4 5 0 ∷ []) ≡
    work (r 0 1 0 ∷ r 0 2 0 ∷ r 1 2 0 ∷ r 2 3 2 ∷ r 3 4 1 ∷ r 3 5 1 ∷ r 4 5 1 ∷ []) (Triangle 0 1 2 ∷ Triangle 3 4 5 ∷ Star 2 ∷ [])
