-- What the searches of a draft find.
use Rattle.std.proofs.Common.{◌≡◌, ℕ, zero, suc, ◌+◌, ◌<◌, ◌≤◌, true, false, cond, eqb, List, [], ◌∷◌, length, get_or, Some, None, Option, Bor, sym, refl, ap, ◌∙◌, subst, ⊎_elim, arith}
use Rattle.std.specs.List.{find, range_with_len}
use Rattle.std.specs.Option.{option_map}
use Rattle.std.proofs.lemmas.Bool.Decides.{nat_tests}
use Rattle.std.proofs.lemmas.Bool.{cond-false, ne_eqb, cases_Bool, cases_lt}
use Rattle.std.proofs.lemmas.List.{get_or_default}
use Rattle.routes.specs.declared.route.Route.{Route}
use Rattle.routes.specs.Tests.{first}
use Rattle.routes.specs.Order.{no_route, pair, ends, before, ascending}
use Rattle.routes.specs.Groups.{side}
use Rattle.routes.proofs.Orders.{ascends_at}
use Rattle.regrouping.specs.Table.{on, degree, lone}
use Rattle.regrouping.specs.Steps.{mate}
use Rattle.regrouping.specs.Pairs.{route_from}
use Rattle.regrouping.proofs.Finds.{from_at, skip_high}

-- ---- the lowest of the numbers that pass
pub lone_found : (d : ℕ → ℕ) (n i : ℕ) → first (lone d) n i ≡ find (λ s. eqb (d s) 1) (range_with_len i n)
lone_found d zero i = refl
lone_found d (suc n) i =
    let h = lone_found d n (i + 1) in
    ⊎_elim (λ e. rw e refl) (λ e. rw e h) (cases_Bool (eqb (d i) 1))

-- ---- the other end of the first route that remains
abbrev pub across : ℕ → Route → ℕ
across s r = cond (eqb r.low s) r.high r.low

mate_found : (t : List Route) (s : ℕ) → option_map (across s) (find (on s) t) ≡ cond (eqb (degree t s) 0) None (Some (mate t s))
mate_found [] s = refl
mate_found (r ∷ rs) s =
    let h = mate_found rs s in
    ⊎_elim (λ e. rw e (sym (cond-false _ _ _ (ne_eqb (1 + degree rs s) 0 (λ z. omega arith))))) (λ e. rw e (let z : 0 + degree rs s ≡ degree rs s = omega arith in rw z h)) (cases_Bool (on s r))

pub mate_told : (t : List Route) (s : ℕ) (x : Option ℕ) (o : Option (Bor Route)) → option_map (λ y. y.now) o ≡ find (on s) t → x ≡ option_map (λ y. across s y.now) o → x ≡ cond (eqb (degree t s) 0) None (Some (mate t s))
mate_told t s x None e m = m ∙ (ap (option_map (across s)) e ∙ mate_found t s)
mate_told t s x (Some y) e m = m ∙ (ap (option_map (across s)) e ∙ mate_found t s)

-- ---- the route from a to b
low_side : (a b : ℕ) (r : Route) → before (pair r) (a, b) ≡ true → side a b r ≡ false
low_side a b r e = grind (arith, nat_tests)

before_next : (d e f : ℕ × ℕ) → before d e ≡ true → before e f ≡ true → before d f ≡ true
before_next d e f p q = grind (arith, nat_tests)

-- what the route at place m tells of the pair
module _ (t : List Route) (a b m : ℕ) (asc : ascending (ends t) ≡ true) (h : m < length t) (r : Route) (stands : r ≡ get_or t m r) where
  there : r ≡ get_or t m no_route
  there = stands ∙ get_or_default t m r no_route h

  -- it is the one
  pub found_there : side a b r ≡ true → Some r ≡ route_from t a b
  found_there s = ap Some there ∙ sym (from_at t m a b asc h (subst (λ x. side a b x ≡ true) there s))

  -- where it comes before the pair, none up to it is the one
  pub none_up_to : before (pair r) (a, b) ≡ true → (k : ℕ) → k < m + 1 → side a b (get_or t k no_route) ≡ false
  none_up_to l k p =
      let e = subst (λ x. before (pair x) (a, b) ≡ true) there l in
      low_side a b (get_or t k no_route)
      (⊎_elim (λ q. before_next (pair (get_or t k no_route)) (pair (get_or t m no_route)) (a, b) (ascends_at t k m asc q h) e)
      (λ q. let z : m ≡ k = omega arith in subst (λ i. before (pair (get_or t i no_route)) (a, b) ≡ true) z e) (cases_lt k m))

  -- where it comes after the pair, none from it on is the one
  pub none_from_there : side a b r ≡ false → before (pair r) (a, b) ≡ false → (k : ℕ) → m ≤ k → k < length t → side a b (get_or t k no_route) ≡ false
  none_from_there s l = skip_high t m a b asc (subst (λ x. before (pair x) (a, b) ≡ false) there l) (subst (λ x. side a b x ≡ false) there s)
