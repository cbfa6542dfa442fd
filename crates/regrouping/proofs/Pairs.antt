-- What the question of a pair answers in an ordered table.
use Rattle.std.proofs.Common.{◌≡◌, ℕ, min, max, true, List, get_or, Some, None, sym, refl, ap, ◌∙◌, subst}
use Rattle.std.proofs.lemmas.Bool.{and_parts}
use Rattle.std.proofs.lemmas.Option.{none-some, option_and_then_some}
use Rattle.routes.specs.declared.route.Route.{Route}
use Rattle.std.specs.List.{list_all}
use Rattle.routes.specs.Order.{no_route, pair, inside, ends, ascending, ordered}
use Rattle.routes.specs.Groups.{side}
use Rattle.routes.proofs.Decompositions.{pair_side, side_pair}
use Rattle.regrouping.specs.Pairs.{group_of, route_between, between, IsBetween, Joins, PairLaw}
use Rattle.regrouping.proofs.Taking.{none_from}
use Rattle.regrouping.proofs.Finds.{from_at, from_some}

-- a route that was found is there, and the only one
is_there : (t : List Route) (a b : ℕ) (r : Route) → route_between t a b ≡ Some r → IsBetween t a b r
is_there t a b r e = let q = from_some t (min a b) (max a b) r e in (q.0, q.1, q.3, pair_side (min a b) (max a b) r (subst (λ x. side (min a b) (max a b) x ≡ true) q.3 q.2))

is_found : (t : List Route) (a b : ℕ) (r : Route) → ascending (ends t) ≡ true → IsBetween t a b r → route_between t a b ≡ Some r
is_found t a b r o j =
    from_at t j.0 (min a b) (max a b) o j.1 (side_pair (min a b) (max a b) (get_or t j.0 no_route) (ap pair j.2 ∙ j.3)) ∙ ap Some j.2

is_missing : (t : List Route) (a b : ℕ) → ((r : Route) → IsBetween t a b r → ⊥) → route_between t a b ≡ None
is_missing t a b h = none_from (route_between t a b) (λ r e. h r (is_there t a b r e))

-- its group
pub group_there : (t : List Route) (a b g : ℕ) → between t a b ≡ Some g → Joins t a b g
group_there t a b g e =
    option_and_then_some (λ r. r.group) (route_between t a b) g e (λ r f d. let j = is_there t a b r f in (j.0, (j.1, ap (λ x. x.group) j.2 ∙ d), ap pair j.2 ∙ j.3))

group_found : (t : List Route) (a b g : ℕ) → ascending (ends t) ≡ true → Joins t a b g → between t a b ≡ Some g
group_found t a b g o j = ap group_of (is_found t a b (get_or t j.0 no_route) o (j.0, j.1.0, refl, j.2)) ∙ j.1.1

pub pair_law : (n : ℕ) (t : List Route) → ordered n (ends t) ≡ true → (a b : ℕ) → PairLaw t a b
pair_law n t o a b =
    let up = (and_parts (list_all (inside n) (ends t)) (ascending (ends t)) o).1 in
    record {
      found = λ r. (is_there t a b r, is_found t a b r up);
      missing = (λ e r j. none-some r (sym e ∙ is_found t a b r up j), is_missing t a b);
      some = λ g. (group_there t a b g, group_found t a b g up);
      none = (λ e g j. none-some g (sym e ∙ group_found t a b g up j), λ h. none_from (between t a b) (λ g e. h g (group_there t a b g e)));
    }
