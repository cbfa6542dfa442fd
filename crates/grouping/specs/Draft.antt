-- What a draft holds, and what a step makes of it.
use Rattle.std.specs.Prelude.{◌≡◌, ℕ, ◌<◌, vec_items, vec_capacity}
use Rattle.routes.specs.declared.route.Group.{Group}
use Rattle.regrouping.specs.Steps.{Work, work, write, live}
use Rattle.grouping.specs.declared.draft.Draft.{Draft}

-- the routes of the draft, and the groups written so far
abbrev pub drawn : Draft → Work
drawn d = work (vec_items d.routes) (vec_items d.groups)

-- the step f, over the stations of the draft d, makes e of it
pub record Makes (f : ℕ → Work → Work) (d e : Draft) : Type 0 where
  pub stations : e.stations ≡ d.stations
  pub drawn : drawn e ≡ f d.stations (drawn d)

-- the draft e has the room of d: the step between them asked for no memory
pub record SameRoom (d e : Draft) : Type 0 where
  pub routes : vec_capacity e.routes ≡ vec_capacity d.routes
  pub groups : vec_capacity e.groups ≡ vec_capacity d.groups

-- the group k takes the last remaining routes of a station
abbrev pub TakesLast : Group → Draft → Type 0
TakesLast k d = live (write k (drawn d)).table d.stations < live (drawn d).table d.stations
