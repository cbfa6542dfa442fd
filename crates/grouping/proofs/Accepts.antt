-- What makes a plan, in its parts.
use Rattle.std.proofs.Common.{◌≡◌, ℕ, ◌≤◌, Bool, true, false, leb, List, [], ◌∷◌, length, Some, None, Option, is_none, sym, refl, arith}
use Rattle.std.specs.List.{list_all}
use Rattle.std.proofs.lemmas.Bool.{and_parts, leb-true}
use Rattle.routes.specs.declared.route.Route.{Route}
use Rattle.routes.specs.declared.route.Group.{Group}
use Rattle.routes.specs.Tests.{is_some_and}
use Rattle.routes.specs.Order.{ends, ordered}
use Rattle.routes.specs.Groups.{placed, decomposed}
use Rattle.regrouping.specs.Steps.{work, Ready}
use Rattle.regrouping.proofs.Live.{live_small}
use Rattle.regrouping.proofs.Done.{Closed, closed_live}
use Rattle.grouping.specs.Plan.{acceptable}

pub accepted : (n : ℕ) (t : List Route) → acceptable n t ≡ true → (n ≤ 32) × (length t ≤ 496) × (ordered n (ends t) ≡ true)
accepted n t e =
    let u = and_parts (leb n 32) _ e in
    let v = and_parts (leb (length t) 496) _ u.1 in
    (leb-true n 32 u.0, leb-true (length t) 496 v.0, v.1)

-- the stations and their routes are ready with no group yet
pub ready_bare : (n : ℕ) (t : List Route) → acceptable n t ≡ true → Ready n (work t [])
ready_bare n t e = let a = accepted n t e in record { stations = a.0; short = a.1; ordered = a.2; room = omega (arith, live_small t n, a.0) }

-- and with the groups that they are decomposed into: none remains
grouped : (p : ℕ → Bool) (o : Option ℕ) → is_some_and p o ≡ true → is_none o ≡ false
grouped p None e = sym e
grouped p (Some g) e = refl

closed : (gs : List Group) (t : List Route) → list_all (placed gs) t ≡ true → Closed t
closed gs [] e = tt
closed gs (r ∷ rs) e = let u = and_parts (placed gs r) (list_all (placed gs) rs) e in (grouped _ r.group u.0, closed gs rs u.1)

pub ready_grouped : (n : ℕ) (t : List Route) (gs : List Group) → acceptable n t ≡ true → length gs ≤ 32 → decomposed t gs ≡ true → Ready n (work t gs)
ready_grouped n t gs e few d =
    let a = accepted n t e in
    let z = closed_live t n (closed gs t (and_parts (list_all (placed gs) t) _ d).0) in
    record { stations = a.0; short = a.1; ordered = a.2; room = omega (arith, z, few) }
