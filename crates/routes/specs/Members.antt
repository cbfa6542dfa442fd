-- Which group numbers have a route, noted in a table over the numbers.
use Rattle.std.specs.Prelude.{◌≡◌, ℕ, Bool, false, List, slice_index_or}
use Rattle.routes.specs.declared.route.Route.{Route}
use Rattle.std.specs.List.{list_any}
use Rattle.routes.specs.Groups.{is_in}

-- the number g is noted exactly where a route is in the group numbered g
abbrev pub Notes : List Bool → List Route → Type 0
Notes present t = (g : ℕ) → slice_index_or present g false ≡ list_any (is_in g) t
