-- Each group that is written takes the last routes of a station, so 32 stations have at most 32 groups.
use Rattle.std.proofs.Common.{◌≡◌, ℕ, zero, suc, ◌+◌, ◌<◌, ◌≤◌, true, cond, ◌&&◌, eqb, ◌⊎◌, List, [], ◌∷◌, refl, subst, ⊎_elim, arith}
use Rattle.std.proofs.lemmas.Bool.Decides.{nat_tests}
use Rattle.std.proofs.lemmas.Bool.{cond_both, both_ways, or_cases, and_parts, cases_eq}
use Rattle.routes.specs.declared.route.Route.{Route}
use Rattle.routes.specs.declared.route.Group.{Group}
use Rattle.routes.specs.declared.route.Group.TheVariants.{Star, Triangle}
use Rattle.routes.specs.Groups.{fits}
use Rattle.regrouping.specs.Table.{remaining, on, degree, joins, remains, loose, two_of}
use Rattle.regrouping.specs.Steps.{in_group, marked, mark, live}

on_marked : (k : Group) (g s : ℕ) (r : Route) → cond (on s (marked k g r)) 1 0 ≤ cond (on s r) 1 0
on_marked k g s r = cond_both (remaining r && fits k r) (in_group g r) r (λ x. cond (on s x) 1 0 ≤ cond (on s r) 1 0) (λ _. omega arith) (λ _. omega arith)

pub degree_mark_le : (k : Group) (g s : ℕ) (t : List Route) → degree (mark k g t) s ≤ degree t s
degree_mark_le k g s [] = omega arith
degree_mark_le k g s (r ∷ rs) = omega (arith, on_marked k g s r, degree_mark_le k g s rs)

on_star : (c g : ℕ) (r : Route) → cond (on c (marked (Star c) g r)) 1 0 ≤ 0
on_star c g r = grind (arith, nat_tests)

pub degree_star : (c g : ℕ) (t : List Route) → degree (mark (Star c) g t) c ≡ 0
degree_star c g [] = refl
degree_star c g (r ∷ rs) = omega (arith, on_star c g r, degree_star c g rs)

-- how many routes from a to b remain
count : ℕ → ℕ → List Route → ℕ
count a b [] = 0
count a b (r ∷ rs) = cond (joins a b r) 1 0 + count a b rs

count_one : (a b : ℕ) (t : List Route) → remains t a b ≡ true → 1 ≤ count a b t
unfolding count
count_one a b [] h = grind arith
count_one a b (r ∷ rs) h =
    ⊎_elim (λ e. cond_both (joins a b r) 1 0 (λ x. 1 ≤ x + count a b rs) (λ _. omega arith) (λ f. absurd (both_ways _ f e)))
    (λ e. omega (arith, count_one a b rs e)) (or_cases (joins a b r) (remains rs a b) h)

at_lowest : (a b c g : ℕ) (r : Route) → b < c → cond (on a (marked (Triangle a b c) g r)) 1 0 + cond (joins a b r) 1 0 + cond (joins a c r) 1 0 ≤ cond (on a r) 1 0
at_lowest a b c g r l = grind (arith, nat_tests)

at_middle : (a b c g : ℕ) (r : Route) → a < b → cond (on b (marked (Triangle a b c) g r)) 1 0 + cond (joins a b r) 1 0 + cond (joins b c r) 1 0 ≤ cond (on b r) 1 0
at_middle a b c g r l = grind (arith, nat_tests)

degree_lowest : (a b c g : ℕ) (t : List Route) → b < c → degree (mark (Triangle a b c) g t) a + count a b t + count a c t ≤ degree t a
unfolding count
degree_lowest a b c g [] l = omega arith
degree_lowest a b c g (r ∷ rs) l = omega (arith, at_lowest a b c g r l, degree_lowest a b c g rs l)

degree_middle : (a b c g : ℕ) (t : List Route) → a < b → degree (mark (Triangle a b c) g t) b + count a b t + count b c t ≤ degree t b
unfolding count
degree_middle a b c g [] l = omega arith
degree_middle a b c g (r ∷ rs) l = omega (arith, at_middle a b c g r l, degree_middle a b c g rs l)

two : (x y z : ℕ) → two_of (eqb x 2) (eqb y 2) (eqb z 2) ≡ true → (x ≡ 2) ⊎ (y ≡ 2)
two x y z e = grind (arith, nat_tests)

-- a loose triangle has a station that loses its last routes
pub loose_spent : (t : List Route) (a b c g : ℕ) → a < b → b < c → loose t a b c ≡ true →
    (s : ℕ) × (degree (mark (Triangle a b c) g t) s ≡ 0) × (0 < degree t s)
loose_spent t a b c g ab bc e =
    let p = and_parts (remains t a b) _ e in
    let q = and_parts (remains t a c) _ p.1 in
    let u = and_parts (remains t b c) _ q.1 in
    ⊎_elim
    (λ x. (a, omega (arith, degree_lowest a b c g t bc, count_one a b t p.0, count_one a c t q.0, x), omega (arith, x)))
    (λ x. (b, omega (arith, degree_middle a b c g t ab, count_one a b t p.0, count_one b c t u.0, x), omega (arith, x)))
    (two (degree t a) (degree t b) (degree t c) u.1)

pub live_le : (t t' : List Route) (n : ℕ) → ((s : ℕ) → degree t' s ≤ degree t s) → live t' n ≤ live t n
live_le t t' zero h = omega arith
live_le t t' (suc n) h = let i = live_le t t' n h in let j = h n in grind (arith, nat_tests)

-- a station that loses its last routes is one less
pub live_less : (t t' : List Route) (n s : ℕ) → ((s : ℕ) → degree t' s ≤ degree t s) → degree t' s ≡ 0 → 0 < degree t s → s < n → live t' n < live t n
live_less t t' zero s h z p l = absurd (omega arith)
live_less t t' (suc n) s h z p l =
    ⊎_elim (λ (e : s ≡ n). let i = live_le t t' n h in let z' : degree t' n ≡ 0 = subst (λ x. degree t' x ≡ 0) e z in let p' : 0 < degree t n = subst (λ x. 0 < degree t x) e p in grind (arith, nat_tests))
    (λ ne. let i = live_less t t' n s h z p (omega arith) in let j = h n in grind (arith, nat_tests)) (cases_eq s n)

pub live_small : (t : List Route) (n : ℕ) → live t n ≤ n
live_small t zero = omega arith
live_small t (suc n) = let i = live_small t n in grind (arith, nat_tests)
