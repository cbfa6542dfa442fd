-- What a group plan holds, what it means as a plan, and which routes and groups make one.
use Rattle.std.specs.Prelude.{ℕ, Bool, ◌&&◌, List, [], length, Some, None, vec_items, Option, nat_le}
use Rattle.plans.specs.declared.turns.Turns.{Turns}
use Rattle.plans.specs.declared.turns.Turns.TheVariants.{NoRoute, One}
use Rattle.plans.specs.Meaning.{Meaning}
use Rattle.routes.specs.declared.route.Route.{Route}
use Rattle.routes.specs.declared.route.Group.{Group}
use Rattle.routes.specs.Order.{ends, ordered}
use Rattle.routes.specs.Groups.{decomposed}
use Rattle.regrouping.specs.Steps.{regrouped}
use Rattle.regrouping.specs.Pairs.{between}
use Rattle.grouping.specs.declared.plan.GroupPlan.{GroupPlan}

-- what a group plan holds: its number of stations, its routes, its groups
pub record Contents : Type 0 where
  pub stations : ℕ
  pub routes : List Route
  pub groups : List Group

-- n stations with these routes in these groups
abbrev pub given : ℕ → List Route → List Group → Contents
given n t gs = record { stations = n; routes = t; groups = gs }

-- no station, no route, no group
abbrev pub nothing : Contents
nothing = given 0 [] []

-- n stations with these routes, in the groups that the three rules build
abbrev pub built : ℕ → List Route → Contents
built n t = given n (regrouped n t).table (regrouped n t).groups

-- what the plan p holds
abbrev pub contents : GroupPlan → Contents
contents p = given p.draft.stations (vec_items p.draft.routes) (vec_items p.draft.groups)

-- at most 32 stations and 496 routes, which are in order
abbrev pub acceptable : ℕ → List Route → Bool
acceptable n t = nat_le n 32 && (nat_le (length t) 496 && ordered n (ends t))

-- and at most 32 groups, which are an edge decomposition
abbrev pub acceptable_grouped : ℕ → List Route → List Group → Bool
acceptable_grouped n t gs = acceptable n t && (nat_le (length gs) 32 && decomposed t gs)

-- a route turns one dial, its group's number
abbrev pub dial : Option ℕ → Turns
dial None = NoRoute
dial (Some g) = One g

-- the plan that it is: a dial for each group
abbrev pub group_meaning : Contents → Meaning
group_meaning c = record { stations = c.stations; dials = length c.groups; reply = λ a b. dial (between c.routes a b) }
