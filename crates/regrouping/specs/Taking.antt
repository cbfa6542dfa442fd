-- What each of the three rules takes of the routes that remain, in the words of the rules.
use Rattle.std.specs.Prelude.{◌≡◌, ℕ, ◌<◌, ◌≤◌, true, ◌≢◌, ◌⊎◌, List, length, MatchOption, slice_index_or}
use Rattle.routes.specs.declared.route.Route.{Route}
use Rattle.routes.specs.Order.{no_route}
use Rattle.regrouping.specs.Table.{remaining, degree, leaf, loose, triangle, weight, best}

-- s is the lowest station below n with exactly one remaining route
pub record IsLeaf (t : List Route) (n s : ℕ) : Type 0 where
  pub station : s < n
  pub lone : degree t s ≡ 1
  pub lowest : (j : ℕ) → j < s → degree t j ≢ 1

-- no station below n has exactly one remaining route
abbrev pub NoLeaf : List Route → ℕ → Type 0
NoLeaf t n = (s : ℕ) → s < n → degree t s ≢ 1

-- three stations: the lowest, the middle, the highest
abbrev pub Corners : Type 0
Corners = ℕ × ℕ × ℕ

-- the corners of a loose triangle, stations below n
pub record IsLoose (t : List Route) (n : ℕ) (x : Corners) : Type 0 where
  pub lower : x.0 < x.1
  pub higher : x.1 < x.2
  pub station : x.2 < n
  pub is : loose t x.0 x.1 x.2 ≡ true

-- x comes ahead of y: by the lowest station, then by the middle, then by the highest
abbrev pub Ahead : Corners → Corners → Type 0
Ahead x y = (x.0 < y.0) ⊎ ((x.0 ≡ y.0) × ((x.1 < y.1) ⊎ ((x.1 ≡ y.1) × (x.2 < y.2))))

-- a loose triangle, and none comes ahead of it
pub record IsFirstLoose (t : List Route) (n : ℕ) (x : Corners) : Type 0 where
  pub triangle : IsLoose t n x
  pub first : (y : Corners) → IsLoose t n y → Ahead y x → ⊥

-- there is no loose triangle
abbrev pub NoLoose : List Route → ℕ → Type 0
NoLoose t n = (x : Corners) → IsLoose t n x → ⊥

-- the route at place i remains
pub record RemainsAt (t : List Route) (i : ℕ) : Type 0 where
  pub place : i < length t
  pub is : remaining (slice_index_or t i no_route) ≡ true

-- the weight of the route at place i: the remaining routes at both its ends
abbrev pub weight_at : List Route → ℕ → ℕ
weight_at t i = weight t (slice_index_or t i no_route)

-- the route at place i remains, no remaining route is heavier, and each ahead of it is lighter
pub record IsHeaviest (t : List Route) (i : ℕ) : Type 0 where
  pub remains : RemainsAt t i
  pub most : (j : ℕ) → RemainsAt t j → weight_at t j ≤ weight_at t i
  pub first : (j : ℕ) → j < i → RemainsAt t j → weight_at t j < weight_at t i

-- no route remains
abbrev pub NoneRemains : List Route → Type 0
NoneRemains t = (i : ℕ) → RemainsAt t i → ⊥

-- what each rule takes of the table t over n stations; none exactly where there is nothing to take
pub record RulesTake (n : ℕ) (t : List Route) : Type 0 where
  pub leaf_rule : MatchOption (leaf t n) (NoLeaf t n) (IsLeaf t n)
  pub triangle_rule : MatchOption (triangle t n) (NoLoose t n) (IsFirstLoose t n)
  pub heaviest_rule : MatchOption (best t) (NoneRemains t) (IsHeaviest t)
