-- The run leaves no route without a group.
use Rattle.std.proofs.Common.{◌≡◌, ℕ, zero, suc, ◌+◌, ◌<◌, ◌≤◌, false, cond, ◌&&◌, ◌||◌, eqb, List, [], ◌∷◌, length, get_or, None, refl, ap, ◌∙◌, subst, ⊎_elim, arith}
use Rattle.std.specs.List.{AllByRecursion}
use Rattle.std.proofs.lemmas.Bool.Decides.{nat_tests}
use Rattle.std.proofs.ByRecursion.{All-from_get_or}
use Rattle.std.proofs.lemmas.Bool.{cond_both, cases_Bool, cases_lt, or_parts, or_from, eqb-true}
use Rattle.routes.specs.declared.route.Route.{Route}
use Rattle.routes.specs.declared.route.Group.{Group}
use Rattle.routes.specs.declared.route.Group.TheVariants.{Star}
use Rattle.routes.specs.Order.{no_route}
use Rattle.regrouping.specs.Table.{remaining, degree, best}
use Rattle.regrouping.specs.Steps.{Work, write, leaves, triangles, star, heaviest, round, rounds, some_open, live, Ready}
use Rattle.regrouping.proofs.Live.{degree_mark_le, degree_star, live_less, live_le}
use Rattle.regrouping.proofs.Tables.{ends_live}
use Rattle.regrouping.proofs.Taking.{best_none, best_some}
use Rattle.regrouping.proofs.Keeps.{answer_both, degree_inside}
use Rattle.regrouping.proofs.Written.{New, ready_some_star, ready_round, keeps_leaves, keeps_triangles, keeps_star, keeps_heaviest, keeps_round}

-- ---- the stations that have routes
pub live_pos : (t : List Route) (n s : ℕ) → s < n → 0 < degree t s → 0 < live t n
live_pos t zero s h p = absurd (omega arith)
live_pos t (suc n) s h p =
    ⊎_elim (λ l. omega (arith, live_pos t n s l p))
    (λ l. let e : s ≡ n = omega arith in let p' : 0 < degree t n = subst (λ x. 0 < degree t x) e p in grind (arith, nat_tests)) (cases_lt s n)

abbrev pub Closed : List Route → Type 0
Closed t = AllByRecursion (λ r. remaining r ≡ false) t

closed_degree : (t : List Route) (s : ℕ) → Closed t → degree t s ≡ 0
closed_degree [] s h = refl
closed_degree (r ∷ rs) s h = ap (λ b. cond (b && (eqb r.low s || eqb r.high s)) 1 0 + degree rs s) h.0 ∙ (let i = closed_degree rs s h.1 in omega arith)

pub closed_live : (t : List Route) (n : ℕ) → Closed t → live t n ≡ 0
closed_live t zero h = refl
closed_live t (suc n) h = let i = closed_live t n h in let d = closed_degree t n h in grind (arith, nat_tests)

pub closed_from : (t : List Route) → some_open t ≡ false → Closed t
closed_from [] e = tt
closed_from (r ∷ rs) e = let u = or_parts (remaining r) (some_open rs) e in (u.0, closed_from rs u.1)

pub closed_open : (t : List Route) → Closed t → some_open t ≡ false
closed_open [] h = refl
closed_open (r ∷ rs) h = or_from (remaining r) (some_open rs) h.0 (closed_open rs h.1)

-- ---- the heaviest route rule finds a route while one remains
pub best_closed : (t : List Route) → best t ≡ None → Closed t
best_closed t e =
    All-from_get_or (λ r. remaining r ≡ false) t no_route
    (λ i h. ⊎_elim (λ o. absurd (best_none t e i (record { place = h; is = o }))) (λ o. o) (cases_Bool (remaining (get_or t i no_route))))

-- ---- each round has a station less
abbrev Most : ℕ → ℕ → Work → Type 0
Most n m w = live w.table n ≤ m

most_write : (n m : ℕ) (k : Group) (w : Work) → Ready n w → New k w.table → Most n m w → Most n m (write k w)
most_write n m k w r e h =
    omega (arith, live_le w.table (write k w).table n (λ s. degree_mark_le k (length w.groups) s w.table), h)

star_less : (n c : ℕ) (w : Work) → Ready n w → 0 < degree w.table c → live (star c w).table n < live w.table n
star_less n c w r p =
    cond_both (eqb (degree w.table c) 0) w (write (Star c) w) (λ v. live v.table n < live w.table n)
    (λ e. absurd (let q = eqb-true (degree w.table c) 0 e in omega arith))
    (λ _. live_less w.table (write (Star c) w).table n c (λ s. degree_mark_le (Star c) (length w.groups) s w.table)
    (degree_star c (length w.groups) w.table) p (degree_inside n c w r p))

heaviest_less : (n : ℕ) (w : Work) → Ready n w → 0 < live w.table n → live (heaviest w).table n < live w.table n
heaviest_less n w r p =
    answer_both (best w.table) w _ (λ v. live v.table n < live w.table n)
    (λ e. absurd (let z = closed_live w.table n (best_closed w.table e) in omega arith))
    (λ i e. let q = best_some w.table i e in
    let a = star_less n (get_or w.table i no_route).low w r (ends_live w.table i q.remains.place q.remains.is).0 in
    let s = star (get_or w.table i no_route).low w in
    let rs : Ready n s = ready_some_star n (get_or w.table i no_route).low w r in
    let b = (keeps_star n (Most n (live s.table n)) (most_write n (live s.table n)) (get_or w.table i no_route).high s (rs, omega arith)).1 in
    omega (arith, a, b))

pub round_less : (n : ℕ) (w : Work) → Ready n w → 0 < live w.table n → live (round n w).table n < live w.table n
round_less n w r p =
    let a = keeps_leaves n (Most n (live w.table n)) (most_write n (live w.table n)) n w (r, omega arith) in
    let b = keeps_triangles n (Most n (live w.table n)) (most_write n (live w.table n)) n (leaves n n w) a in
    let v = triangles n n (leaves n n w) in
    ⊎_elim (λ (z : 0 < live v.table n). let c = heaviest_less n v b.0 z in omega (arith, c, b.1))
    (λ (z : live v.table n ≤ 0). let c = (keeps_heaviest n (Most n 0) (most_write n 0) v (b.0, z)).1 in omega (arith, c))
    (cases_lt 0 (live v.table n))

pub round_le : (n : ℕ) (w : Work) → Ready n w → live (round n w).table n ≤ live w.table n
round_le n w r = (keeps_round n (Most n (live w.table n)) (most_write n (live w.table n)) w (r, omega arith)).1

pub rounds_done : (k n : ℕ) (w : Work) → Ready n w → live w.table n ≤ k → live (rounds k n w).table n ≡ 0
rounds_done zero n w r h = omega arith
rounds_done (suc k) n w r h =
    cond_both (some_open w.table) _ w (λ v. live v.table n ≡ 0)
    (λ _. rounds_done k n (round n w) (ready_round n w r)
    (⊎_elim (λ (z : 0 < live w.table n). let q = round_less n w r z in omega arith) (λ (z : live w.table n ≤ 0). let q = round_le n w r in omega arith) (cases_lt 0 (live w.table n))))
    (λ e. closed_live w.table n (closed_from w.table e))

pub live_closed : (n : ℕ) (w : Work) → Ready n w → live w.table n ≡ 0 → Closed w.table
live_closed n w r z =
    All-from_get_or (λ x. remaining x ≡ false) w.table no_route
    (λ i h. ⊎_elim (λ o. absurd (let d = (ends_live w.table i h o).0 in let l = live_pos w.table n _ (degree_inside n _ w r d) d in omega arith)) (λ o. o)
    (cases_Bool (remaining (get_or w.table i no_route))))
