-- A written group keeps `Ready`.
use Rattle.std.proofs.Common.{◌≡◌, ℕ, ◌<◌, true, ◌&&◌, ltb, List, [], ◌∷◌, length, Some, None, Option, refl, ap, ◌∙◌, arith}
use Rattle.std.specs.List.{AllByRecursion}
use Rattle.std.proofs.lemmas.Bool.Decides.{nat_tests}
use Rattle.std.proofs.ByRecursion.{All-weaker}
use Rattle.std.proofs.lemmas.List.{length_push, length-map}
use Rattle.std.proofs.lemmas.Bool.{cond_both, and_parts, ltb-true}
use Rattle.routes.specs.declared.route.Route.{Route}
use Rattle.routes.specs.declared.route.Group.{Group}
use Rattle.routes.specs.declared.route.Group.TheVariants.{Star, Triangle}
use Rattle.std.specs.List.{list_all}
use Rattle.routes.specs.Order.{pair, ends, inside, ascending, ordered}
use Rattle.routes.specs.Groups.{fits}
use Rattle.regrouping.specs.Table.{remaining, degree, loose, answer, triangle}
use Rattle.regrouping.specs.Steps.{Work, in_group, marked, mark, write, mate, Inside, Ready}
use Rattle.regrouping.proofs.Taking.{triangle_some}
use Rattle.regrouping.proofs.Live.{degree_mark_le, degree_star, loose_spent, live_less}

-- ---- cases of an answer
pub answer_both : {X Y : Type 0} (o : Option X) (y : Y) (f : X → Y) (P : Y → Type 0) → (o ≡ None → P y) → ((x : X) → o ≡ Some x → P (f x)) → P (answer o y f)
answer_both None y f P none some = none refl
answer_both (Some x) y f P none some = some x refl

-- ---- what a search found
abbrev pub Found : List Route → ℕ × ℕ × ℕ → Type 0
Found t x = (x.0 < x.1) × (x.1 < x.2) × (loose t x.0 x.1 x.2 ≡ true)

pub triangle_found : (t : List Route) (n : ℕ) (x : ℕ × ℕ × ℕ) → triangle t n ≡ Some x → Found t x
triangle_found t n x e = let q = (triangle_some t n x e).triangle in (q.lower, q.higher, q.is)

pub mate_live : (t : List Route) (s : ℕ) → 0 < degree t s → 0 < degree t (mate t s)
mate_live [] s h = absurd (omega arith)
mate_live (r ∷ rs) s h = let i = mate_live rs s in grind (arith, nat_tests)

-- ---- the ends stay
ends_marked : (k : Group) (g : ℕ) (r : Route) → pair (marked k g r) ≡ pair r
ends_marked k g r = cond_both (remaining r && fits k r) (in_group g r) r (λ x. pair x ≡ pair r) (λ _. refl) (λ _. refl)

pub ends_mark : (k : Group) (g : ℕ) (t : List Route) → ends (mark k g t) ≡ ends t
ends_mark k g [] = refl
ends_mark k g (r ∷ rs) = let e = ends_marked k g r in let i = ends_mark k g rs in cc

pub inside_all : (n : ℕ) (t : List Route) → list_all (inside n) (ends t) ≡ true → AllByRecursion (Inside n) t
inside_all n [] e = tt
inside_all n (r ∷ rs) e =
    let u = and_parts (inside n (r.low, r.high)) _ e in
    let v = and_parts (ltb r.low r.high) _ u.0 in
    ((ltb-true r.low r.high v.0, ltb-true r.high n v.1), inside_all n rs u.1)

pub ready_inside : (n : ℕ) (w : Work) → Ready n w → AllByRecursion (Inside n) w.table
ready_inside n w r = inside_all n w.table (and_parts (list_all (inside n) (ends w.table)) _ r.ordered).0

pub ready_ascending : (n : ℕ) (w : Work) → Ready n w → ascending (ends w.table) ≡ true
ready_ascending n w r = (and_parts (list_all (inside n) (ends w.table)) _ r.ordered).1

-- a station number is below 32
pub ready_low : (n : ℕ) (w : Work) → Ready n w → AllByRecursion (Inside 32) w.table
ready_low n w r = All-weaker (Inside n) (Inside 32) (λ x h. (h.0, omega (arith, h.1, r.stations))) w.table (ready_inside n w r)

degree_below : (t : List Route) (n s : ℕ) → AllByRecursion (Inside n) t → 0 < degree t s → s < n
degree_below [] n s a h = absurd (omega arith)
degree_below (r ∷ rs) n s a h = let i = degree_below rs n s a.1 in let j = a.0 in grind (arith, nat_tests)

pub degree_inside : (n s : ℕ) (w : Work) → Ready n w → 0 < degree w.table s → s < n
degree_inside n s w r h = degree_below w.table n s (ready_inside n w r) h

-- ---- one group more
pub ready_write : (k : Group) (n : ℕ) (w : Work) (s : ℕ) → Ready n w → degree (write k w).table s ≡ 0 → 0 < degree w.table s → Ready n (write k w)
ready_write k n w s h z p =
    let l = live_less w.table (write k w).table n s (λ x. degree_mark_le k (length w.groups) x w.table) z p (degree_inside n s w h p) in
    record { stations = h.stations; ordered = ap (ordered n) (ends_mark k (length w.groups) w.table) ∙ h.ordered; short = omega (arith, h.short, length-map w.table (marked k (length w.groups))); room = omega (arith, length_push w.groups k, h.room, l) }

pub ready_star : (n c : ℕ) (w : Work) → Ready n w → 0 < degree w.table c → Ready n (write (Star c) w)
ready_star n c w h p = ready_write (Star c) n w c h (degree_star c (length w.groups) w.table) p

pub ready_triangle : (n : ℕ) (x : ℕ × ℕ × ℕ) (w : Work) → Ready n w → Found w.table x → Ready n (write (Triangle x.0 x.1 x.2) w)
ready_triangle n x w h f =
    let q = loose_spent w.table x.0 x.1 x.2 (length w.groups) f.0 f.1 f.2 in
    ready_write (Triangle x.0 x.1 x.2) n w q.0 h q.1 q.2
