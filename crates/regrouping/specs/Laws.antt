-- What regrouping promises, over the definitions of the rules.
use Rattle.std.specs.Prelude.{◌≡◌, ℕ, ◌≤◌, true, false, List, length, None}
use Rattle.routes.specs.declared.route.Route.{Route}
use Rattle.routes.specs.Order.{ends}
use Rattle.routes.specs.Groups.{decomposed}
use Rattle.regrouping.specs.Table.{leaf, triangle}
use Rattle.regrouping.specs.Steps.{Work, start, leaves, triangles, rounds, regrouped, some_open}

-- the same routes in the same order, decomposed, into at most 32 groups
pub record Regroups (t : List Route) (w : Work) : Type 0 where
  pub same : ends w.table ≡ ends t
  pub short : length w.table ≡ length t
  pub few : length w.groups ≤ 32
  pub split : decomposed w.table w.groups ≡ true

-- no rule stops while it still applies, in any round k of the regrouping of t over n stations
pub record RulesFinish (n : ℕ) (t : List Route) : Type 0 where
  -- after the leaf rule no station has exactly one remaining route
  pub leaves_none : (k : ℕ) → leaf (leaves n n (rounds k n (start t))).table n ≡ None
  -- after the loose triangle rule there is no loose triangle
  pub triangles_none : (k : ℕ) → triangle (triangles n n (leaves n n (rounds k n (start t)))).table n ≡ None
  -- after the last round no route remains
  pub remain_none : some_open (regrouped n t).table ≡ false
