-- The search for a route in an ascending table.
use Rattle.std.proofs.Common.{◌≡◌, ℕ, zero, suc, ◌<◌, ◌≤◌, Bool, true, false, ◌&&◌, ◌||◌, List, [], ◌∷◌, length, get_or, Some, None, sym, refl, ap, ◌∙◌, subst, ⊎_elim, arith}
use Rattle.std.proofs.lemmas.Bool.Decides.{nat_tests}
use Rattle.std.proofs.lemmas.Bool.{and_parts, or_from, cond-true, cond-false, cases_Bool, cases_lt}
use Rattle.routes.specs.declared.route.Route.{Route}
use Rattle.std.specs.List.{list_all, list_any}
use Rattle.routes.specs.Tests.{is_some_and}
use Rattle.routes.specs.Order.{no_route, pair, ends, before, ascending}
use Rattle.routes.specs.Groups.{side}
use Rattle.routes.proofs.Orders.{ascends_at}
use Rattle.regrouping.specs.Table.{remaining, joins, remains}
use Rattle.regrouping.specs.Pairs.{route_from}

-- the route that was found is the only one
pub from_at : (t : List Route) (k a b : ℕ) → ascending (ends t) ≡ true → k < length t → side a b (get_or t k no_route) ≡ true → route_from t a b ≡ Some (get_or t k no_route)
from_at [] k a b e h s = absurd (omega arith)
from_at (r ∷ rs) zero a b e h s = cond-true (side a b r) _ _ s
from_at (r ∷ rs) (suc k) a b e h s =
    let l = ascends_at (r ∷ rs) 0 (suc k) e (omega arith) h in
    let no : side a b r ≡ false = grind (arith, nat_tests) in
    cond-false (side a b r) _ _ no ∙ from_at rs k a b (and_parts (list_all (before (pair r)) (ends rs)) _ e).1 (omega arith) s

pub from_none : (t : List Route) (a b : ℕ) → ((k : ℕ) → k < length t → side a b (get_or t k no_route) ≡ false) → route_from t a b ≡ None
from_none [] a b h = refl
from_none (r ∷ rs) a b h = cond-false (side a b r) _ _ (h 0 (omega arith)) ∙ from_none rs a b (λ k l. h (suc k) (omega arith))

-- a route that was found is one from a to b
pub from_some : (t : List Route) (a b : ℕ) (r : Route) → route_from t a b ≡ Some r → (k : ℕ) × (k < length t) × (side a b (get_or t k no_route) ≡ true) × (get_or t k no_route ≡ r)
from_some [] a b x e = cc
from_some (r ∷ rs) a b x e =
    ⊎_elim
    (λ s. let f : Some r ≡ Some x = sym (cond-true (side a b r) _ _ s) ∙ e in (0, omega arith, s, (cc)))
    (λ s. let q = from_some rs a b x (sym (cond-false (side a b r) _ _ s) ∙ e) in (suc q.0, omega (arith, q.1), q.2, q.3))
    (cases_Bool (side a b r))

pub skip_high : (t : List Route) (m a b : ℕ) → ascending (ends t) ≡ true → before (pair (get_or t m no_route)) (a, b) ≡ false → side a b (get_or t m no_route) ≡ false → (k : ℕ) → m ≤ k → k < length t → side a b (get_or t k no_route) ≡ false
skip_high t m a b e l s k p h =
    ⊎_elim (λ q. let u = ascends_at t m k e q h in grind (arith, nat_tests)) (λ q. let z : m ≡ k = omega arith in subst (λ x. side a b (get_or t x no_route) ≡ false) z s) (cases_lt m k)

-- ---- whether the route remains
some_none : {X : Type 0} (p : X → Bool) (t : List X) (d : X) → ((k : ℕ) → k < length t → p (get_or t k d) ≡ false) → list_any p t ≡ false
some_none p [] d h = refl
some_none p (x ∷ xs) d h = or_from (p x) (list_any p xs) (h 0 (omega arith)) (some_none p xs d (λ k l. h (suc k) (omega arith)))

and_no : (x y z : Bool) → y ≡ false → ((x && y) || z) ≡ z
and_no true y z e = rw e
and_no false y z e = refl

and_or : (x y : Bool) → y ≡ true → ((x && y) || false) ≡ x
and_or true y e = rw e
and_or false y e = refl

pub remains_from : (t : List Route) (a b : ℕ) → ascending (ends t) ≡ true → remains t a b ≡ is_some_and remaining (route_from t a b)
remains_from [] a b e = refl
remains_from (r ∷ rs) a b e =
    ⊎_elim
    (λ s.
    let no : remains rs a b ≡ false = some_none (joins a b) rs no_route (λ k l. let u = ascends_at (r ∷ rs) 0 (suc k) e (omega arith) (omega arith) in grind (arith, nat_tests)) in
    ap (λ x. joins a b r || x) no ∙ (and_or (remaining r) (side a b r) s ∙ ap (is_some_and remaining) (sym (cond-true (side a b r) (Some r) (route_from rs a b) s))))
    (λ s.
    and_no (remaining r) (side a b r) (remains rs a b) s ∙
    (remains_from rs a b (and_parts (list_all (before (pair r)) (ends rs)) _ e).1 ∙ ap (is_some_and remaining) (sym (cond-false (side a b r) (Some r) (route_from rs a b) s))))
    (cases_Bool (side a b r))
