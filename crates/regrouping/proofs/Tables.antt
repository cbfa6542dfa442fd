-- The steps of the loops over a table of routes.
use Rattle.std.proofs.Common.{◌≡◌, ℕ, zero, suc, ◌+◌, ◌<◌, ◌≤◌, true, cond, eqb, ltb, List, [], ◌∷◌, length, get_or, drop, Some, Option, refl, ap, arith}
use Rattle.std.proofs.lemmas.Bool.{cond_both, and_from, or_left, or_right, eq-eqb}
use Rattle.std.specs.Option.{option_or}
use Rattle.routes.specs.Order.{no_route}
use Rattle.regrouping.specs.Table.{remaining, touches, on, degree, best_from}
use Rattle.std.proofs.lemmas.List.{at_drop_more, at_drop_all}
use Rattle.routes.specs.declared.route.Route.{Route}

pub degree_more : (t : List Route) (i s : ℕ) → i < length t → degree (drop i t) s ≡ cond (on s (get_or t i no_route)) 1 0 + degree (drop (i + 1) t) s
degree_more t i s h = at_drop_more (λ xs. degree xs s) t i no_route h

pub degree_all : (t : List Route) (i s : ℕ) → length t ≤ i → degree (drop i t) s ≡ 0
degree_all t i s h = at_drop_all (λ xs. degree xs s) t i h

pub degree_small : (t : List Route) (s : ℕ) → degree t s ≤ length t
degree_small [] s = omega arith
degree_small (r ∷ rs) s = cond_both (on s r) 1 0 (λ x. x + degree rs s ≤ suc (length rs)) (λ _. omega (arith, degree_small rs s)) (λ _. omega (arith, degree_small rs s))

pub best_more : (w : Route → ℕ) (t : List Route) (i top : ℕ) (b : Option ℕ) → i < length t → best_from w (drop i t) i top b ≡ cond (ltb top (w (get_or t i no_route))) (best_from w (drop (i + 1) t) (i + 1) (w (get_or t i no_route)) (Some i)) (best_from w (drop (i + 1) t) (i + 1) top b)
best_more w t i top b h = at_drop_more (λ xs. best_from w xs i top b) t i no_route h

pub best_all : (w : Route → ℕ) (t : List Route) (i top : ℕ) (b : Option ℕ) → length t ≤ i → best_from w (drop i t) i top b ≡ b
best_all w t i top b h = at_drop_all (λ xs. best_from w xs i top b) t i h

pub hit_two : {X : Type 0} (o p q : Option X) (x : X) → o ≡ Some x → option_or (option_or o p) q ≡ Some x
hit_two o p q x e = rw e

-- ---- a station's routes
pub degree_at : (t : List Route) (i s : ℕ) → i < length t → on s (get_or t i no_route) ≡ true → 0 < degree t s
degree_at [] i s h e = absurd (omega arith)
degree_at (r ∷ rs) zero s h e = let z : degree (r ∷ rs) s ≡ 1 + degree rs s = ap (λ b. cond b 1 0 + degree rs s) e in omega arith
degree_at (r ∷ rs) (suc i) s h e = let j = degree_at rs i s (omega arith) e in omega arith

-- a route that remains counts at both its ends
pub ends_live : (t : List Route) (i : ℕ) → i < length t → remaining (get_or t i no_route) ≡ true → (0 < degree t (get_or t i no_route).low) × (0 < degree t (get_or t i no_route).high)
ends_live t i h p =
    let r = get_or t i no_route in (
      degree_at t i r.low h (and_from (remaining r) (touches r.low r) p (or_left (eqb r.low r.low) (eqb r.high r.low) (eq-eqb r.low r.low refl))),
      degree_at t i r.high h (and_from (remaining r) (touches r.high r) p (or_right (eqb r.low r.high) (eqb r.high r.high) (eq-eqb r.high r.high refl))),
    )
