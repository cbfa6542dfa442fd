-- Counting the remaining routes of each station, and what the counts tell.
use Rattle.std.proofs.Common.{◌≡◌, ℕ, zero, suc, ◌+◌, ◌-◌, ◌<◌, ◌≤◌, Bool, true, false, cond, ◌&&◌, ◌||◌, eqb, ltb, List, [], ◌∷◌, length, get_or, drop, set, Some, None, Option, sym, refl, ap, ◌∙◌, subst, ⊎_elim, arith, length-set, get_or-set_other, get_or-set_same}
use Rattle.std.specs.List.{ContainsAt as Has}
use Rattle.std.proofs.ByRecursion.{has_get_or}
use Rattle.std.proofs.lemmas.Bool.Decides.{nat_tests}
use Rattle.std.proofs.lemmas.Bool.{cond-true, cond-false, eq-eqb, ne_eqb, eqb-true, cases_eq, le-ltb}
use Rattle.routes.specs.declared.route.Route.{Route}
use Rattle.routes.specs.Order.{no_route}
use Rattle.routes.proofs.Firsts.{first_none}
use Rattle.regrouping.specs.Table.{remaining, touches, on, degree, Counted, weight, best_from, remains, loose, third, second, lowest, triangle}
use Rattle.regrouping.specs.Steps.{in_group}
use Rattle.regrouping.proofs.Tables.{degree_more, best_more}

-- one route is written anew
pub degree_set : (t : List Route) (i s : ℕ) (x : Route) → i < length t → degree (set t i x) s + cond (on s (get_or t i no_route)) 1 0 ≡ degree t s + cond (on s x) 1 0
degree_set [] i s x h = absurd (omega arith)
degree_set (r ∷ rs) zero s x h = omega arith
degree_set (r ∷ rs) (suc i) s x h = omega (arith, degree_set rs i s x (omega arith))

-- the count x of s is over the routes before place i: one route more
pub count_in : (t : List Route) (i s x y : ℕ) → i < length t → remaining (get_or t i no_route) ≡ true → x + degree (drop i t) s ≡ degree t s →
    y ≡ x + cond (touches s (get_or t i no_route)) 1 0 → y + degree (drop (i + 1) t) s ≡ degree t s
count_in t i s x y h r e z =
    let m = degree_more t i s h in
    let o : cond (on s (get_or t i no_route)) 1 0 ≡ cond {A = ℕ} (touches s (get_or t i no_route)) 1 0 = ap (λ b. cond {A = ℕ} (b && touches s (get_or t i no_route)) 1 0) r in
    omega arith

-- a route that does not remain counts nowhere
pub count_over : (t : List Route) (i s x : ℕ) → i < length t → remaining (get_or t i no_route) ≡ false → x + degree (drop i t) s ≡ degree t s → x + degree (drop (i + 1) t) s ≡ degree t s
count_over t i s x h r e =
    let m = degree_more t i s h in
    let o : ◌≡◌ {A = ℕ} (cond (on s (get_or t i no_route)) 1 0) 0 = ap (λ b. cond {A = ℕ} (b && touches s (get_or t i no_route)) 1 0) r in
    omega arith

-- a route that does not remain is not the heaviest
pub best_skip : (t : List Route) (i top : ℕ) (b : Option ℕ) → i < length t → remaining (get_or t i no_route) ≡ false →
    best_from (weight t) (drop i t) i top b ≡ best_from (weight t) (drop (i + 1) t) (i + 1) top b
best_skip t i top b h e =
    let r = get_or t i no_route in
    let z : ◌≡◌ {A = ℕ} (weight t r) 0 = cond-false (remaining r) (degree t r.low + degree t r.high) 0 e in
    best_more (weight t) t i top b h ∙ cond-false (ltb top (weight t r)) _ _ (le-ltb top (weight t r) (omega arith))

-- ---- a route that gets a group
-- it leaves each of its ends with one remaining route less
pub count_out : (t : List Route) (i s g x y : ℕ) → i < length t → remaining (get_or t i no_route) ≡ true → x ≡ degree t s → x ≡ y + cond (touches s (get_or t i no_route)) 1 0 →
    y ≡ degree (set t i (in_group g (get_or t i no_route))) s
count_out t i s g x y h r e z =
    let q = degree_set t i s (in_group g (get_or t i no_route)) h in
    let o : cond (on s (get_or t i no_route)) 1 0 ≡ cond {A = ℕ} (touches s (get_or t i no_route)) 1 0 = ap (λ b. cond {A = ℕ} (b && touches s (get_or t i no_route)) 1 0) r in
    omega arith

-- ---- the loose triangle
-- no third station, where neither a nor b has exactly two remaining routes
pub second_heavy : (t : List Route) (n a b : ℕ) → eqb (degree t a) 2 ≡ false → eqb (degree t b) 2 ≡ false → second t n a b ≡ None
second_heavy t n a b x y =
    first_none (third t a b) (n - (b + 1)) (b + 1) (λ c _ _. cond-false (loose t a b c) (Some (a, b, c)) None (grind (arith, nat_tests)))

-- nor where the route between them does not remain
pub second_apart : (t : List Route) (n a b : ℕ) → remains t a b ≡ false → second t n a b ≡ None
second_apart t n a b x =
    first_none (third t a b) (n - (b + 1)) (b + 1) (λ c _ _. cond-false (loose t a b c) (Some (a, b, c)) None (grind (arith, nat_tests)))

-- no loose triangle, where no station has exactly two remaining routes
pub triangle_none : (d : List ℕ) (t : List Route) (n : ℕ) → n ≤ 32 → length d ≡ 32 → Counted d t → (Has d 2 → ⊥) → triangle t n ≡ None
triangle_none d t n l w c h =
    let no : (s : ℕ) → s < n → eqb (degree t s) 2 ≡ false =
    λ s m. ne_eqb (degree t s) 2 (λ e. h (subst (Has d) (c s (omega arith) ∙ e) (has_get_or d s 0 (omega arith)))) in
    first_none (lowest t n) n 0
    (λ a _ m. first_none (second t n a) (n - (a + 1)) (a + 1) (λ b k o. second_heavy t n a b (no a (omega arith)) (no b (omega arith))))

-- ---- two places of a list are changed by f
set_at : (d : List ℕ) (a x s : ℕ) → a < length d → get_or (set d a x) s 0 ≡ cond (eqb a s) x (get_or d s 0)
set_at d a x s h =
    ⊎_elim (λ e. subst (λ k. get_or (set d a x) k 0 ≡ cond (eqb a k) x (get_or d k 0)) e (get_or-set_same d a x 0 h ∙ sym (cond-true (eqb a a) x (get_or d a 0) (eq-eqb a a refl))))
    (λ n. get_or-set_other d a s x 0 (λ e. n (sym e)) ∙ sym (cond-false (eqb a s) x (get_or d s 0) (ne_eqb a s n))) (cases_eq a s)

pick : (f : ℕ → ℕ) (d : List ℕ) (a b s : ℕ) (x y : Bool) → (x ≡ true → a ≡ s) → (y ≡ true → b ≡ s) →
    cond y (f (get_or d b 0)) (cond x (f (get_or d a 0)) (get_or d s 0)) ≡ cond (x || y) (f (get_or d s 0)) (get_or d s 0)
pick f d a b s true true p q = ap (λ k. f (get_or d k 0)) (q refl)
pick f d a b s true false p q = ap (λ k. f (get_or d k 0)) (p refl)
pick f d a b s false true p q = ap (λ k. f (get_or d k 0)) (q refl)
pick f d a b s false false p q = refl

pub both_changed : (f : ℕ → ℕ) (d : List ℕ) (a b s : ℕ) → a < b → b < length d →
    get_or (set (set d a (f (get_or d a 0))) b (f (get_or (set d a (f (get_or d a 0))) b 0))) s 0 ≡ cond (eqb a s || eqb b s) (f (get_or d s 0)) (get_or d s 0)
both_changed f d a b s l h =
    let x = f (get_or d a 0) in
    let z : get_or (set d a x) b 0 ≡ get_or d b 0 = get_or-set_other d a b x 0 (λ e. omega arith) in
    let p = set_at (set d a x) b (f (get_or (set d a x) b 0)) s (omega (arith, length-set d a x)) in
    let q = set_at d a x s (omega arith) in
    p ∙ (ap (λ y. cond (eqb b s) (f y) (get_or (set d a x) s 0)) z ∙ (ap (λ y. cond (eqb b s) (f (get_or d b 0)) y) q ∙ pick f d a b s (eqb a s) (eqb b s) (eqb-true a s) (eqb-true b s)))

-- one more, and one less where there is one, at both
pub both_more : (b : Bool) (x : ℕ) → cond b (x + 1) x ≡ x + cond b 1 0
both_more true x = refl
both_more false x = omega arith

pub both_less : (b : Bool) (x : ℕ) → (b ≡ true → 0 < x) → x ≡ cond b (x - 1) x + cond b 1 0
both_less true x h = let l = h refl in omega arith
both_less false x h = omega arith
