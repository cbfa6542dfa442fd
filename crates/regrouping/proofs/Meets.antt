-- What the question of a pair answers in an ordered and decomposed table.
use Rattle.std.proofs.Common.{◌≡◌, ℕ, ◌<◌, min, max, true, ◌⊎◌, List, length, get_or, IsSomeAnd, Some, subst, ⊎_elim, arith}
use Rattle.std.proofs.lemmas.Bool.Decides.{nat_tests}
use Rattle.std.proofs.lemmas.Bool.{and_parts, cases_lt}
use Rattle.routes.specs.declared.route.Route.{Route}
use Rattle.routes.specs.declared.route.Group.{Group}
use Rattle.routes.specs.declared.route.Group.TheVariants.{Star}
use Rattle.std.specs.List.{list_all}
use Rattle.routes.specs.Order.{no_route, pair, inside, ends, ordered}
use Rattle.routes.specs.Groups.{fits, placed, decomposed}
use Rattle.regrouping.specs.Pairs.{between}
use Rattle.routes.proofs.Orders.{inside_at}
use Rattle.routes.proofs.Decompositions.{fits_at, decomposition_from, fits_meet}
use Rattle.regrouping.proofs.Pairs.{group_there}

-- ---- the ends of a route that was found
-- two stations of a route are below n, and differ
pub between_inside : (n : ℕ) (t : List Route) (a b g : ℕ) → ordered n (ends t) ≡ true → between t a b ≡ Some g → (a < n) × (b < n) × (a ≡ b → ⊥)
between_inside n t a b g o e =
    let q = group_there t a b g e in
    let i : inside n (min a b, max a b) ≡ true = subst (λ x. inside n x ≡ true) q.2 (inside_at n t q.0 o q.1.0) in
    let l : min a b < max a b = grind (arith, nat_tests) in
    let m : max a b < n = grind (arith, nat_tests) in
    (omega (arith, l, m), omega (arith, l, m), λ z. omega (arith, l))

-- ---- the group of a route that was found
from_placed : (gs : List Group) (t : List Route) (a b g : ℕ) → decomposed t gs ≡ true → between t a b ≡ Some g →
    (r : Route) × (pair r ≡ (min a b, max a b)) × (g < length gs) × (fits (get_or gs g (Star 0)) r ≡ true)
from_placed gs t a b g p e =
    let q = group_there t a b g e in
    let in_group = fits_at t gs g q.0 (and_parts (list_all (placed gs) t) _ p).0 q.1 in
    (get_or t q.0 no_route, q.2, subst (λ o. IsSomeAnd o (λ x. x < length gs)) q.1.1 ((decomposition_from t gs p).covered q.0 q.1.0), in_group)

pub between_group : (gs : List Group) (t : List Route) (a b g : ℕ) → decomposed t gs ≡ true → between t a b ≡ Some g → g < length gs
between_group gs t a b g p e = (from_placed gs t a b g p e).2

-- ---- two routes of one group share a station
abbrev pub Meet : ℕ → ℕ → ℕ → ℕ → Type 0
Meet a b c d = (a ≡ c) ⊎ ((a ≡ d) ⊎ ((b ≡ c) ⊎ (b ≡ d)))

meet_min : (a b c d : ℕ) → Meet (min a b) (max a b) (min c d) (max c d) → Meet a b c d
meet_min a b c d m = ⊎_elim (λ x. ⊎_elim (λ y. grind arith) (λ y. grind arith) (cases_lt c d)) (λ x. ⊎_elim (λ y. grind arith) (λ y. grind arith) (cases_lt c d)) (cases_lt a b)

pub groups_meet : (t : List Route) (gs : List Group) → decomposed t gs ≡ true → (a b c d g : ℕ) → between t a b ≡ Some g → between t c d ≡ Some g → Meet a b c d
groups_meet t gs p a b c d g e f =
    let q = from_placed gs t a b g p e in
    let u = from_placed gs t c d g p f in
    let m = fits_meet (get_or gs g (Star 0)) q.0 u.0 q.3 u.3 in
    meet_min a b c d (subst (λ y. Meet (min a b) (max a b) y.0 y.1) u.1 (subst (λ x. Meet x.0 x.1 u.0.low u.0.high) q.1 m))
