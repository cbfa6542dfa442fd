-- Each written group leaves the routes so far decomposed.
use Rattle.std.proofs.Common.{is_none, ◌≡◌, ℕ, suc, ◌+◌, ◌<◌, Bool, true, false, cond, ◌&&◌, ◌||◌, ltb, List, [], ◌∷◌, ◌++◌, length, sym, refl, ap, ◌∙◌, subst, ⊎_elim, arith}
use Rattle.std.proofs.lemmas.Bool.Decides.{nat_tests}
use Rattle.std.proofs.lemmas.List.{length_push, get_or_push, get_or_append_left}
use Rattle.std.proofs.lemmas.Bool.{cond_both, cond-true, and_parts, and_from, or_cases, or_left, or_right, lt-ltb, ltb-true, both_ways, eq-eqb}
use Rattle.routes.specs.declared.route.Route.{Route}
use Rattle.routes.specs.declared.route.Group.{Group}
use Rattle.routes.specs.declared.route.Group.TheVariants.{Star, Triangle}
use Rattle.std.specs.List.{list_all, list_any}
use Rattle.routes.specs.Order.{ends}
use Rattle.routes.specs.Groups.{is_in, fits, side, placed, whole, wholes}
use Rattle.regrouping.specs.Table.{remaining, on, joins, remains, degree}
use Rattle.regrouping.specs.Steps.{Work, in_group, marked, mark, write, rounds, Ready}
use Rattle.routes.proofs.Decompositions.{passing, in_from, placed_in}
use Rattle.routes.proofs.Lists.{all_map, any_map}
use Rattle.regrouping.proofs.Keeps.{ends_mark}
use Rattle.regrouping.proofs.Written.{New, keeps_rounds}

-- ---- the routes that are in a group fit it
abbrev pub held : List Group → Route → Bool
held gs r = remaining r || placed gs r

fits_in : (k : Group) (g : ℕ) (r : Route) → fits k (in_group g r) ≡ fits k r
fits_in (Star c) g r = refl
fits_in (Triangle a b c) g r = refl

placed_new : (k : Group) (gs : List Group) (r : Route) → fits k r ≡ true → placed (gs ++ k ∷ []) (in_group (length gs) r) ≡ true
placed_new k gs r e =
    and_from _ _ (lt-ltb (length gs) (length (gs ++ k ∷ [])) (omega (arith, length_push gs k)))
    (ap (λ x. fits x (in_group (length gs) r)) (get_or_push gs k (Star 0) (length gs) refl) ∙ (fits_in k (length gs) r ∙ e))

placed_old : (k : Group) (gs : List Group) (r : Route) → placed gs r ≡ true → placed (gs ++ k ∷ []) r ≡ true
placed_old k gs r e =
    let q = passing _ r.group e in
    let g = q.0 in
    let u = and_parts (ltb g (length gs)) _ q.2 in
    let l = ltb-true g (length gs) u.0 in
    placed_in (gs ++ k ∷ []) g r q.1 ∙
    and_from _ _ (lt-ltb g (length (gs ++ k ∷ [])) (omega (arith, length_push gs k)))
    (ap (λ x. fits x r) (get_or_append_left gs (k ∷ []) (Star 0) g l) ∙ u.1)

held_marked : (k : Group) (gs : List Group) (r : Route) → held gs r ≡ true → held (gs ++ k ∷ []) (marked k (length gs) r) ≡ true
held_marked k gs r e =
    cond_both (remaining r && fits k r) (in_group (length gs) r) r (λ x. held (gs ++ k ∷ []) x ≡ true)
    (λ h. placed_new k gs r (and_parts (remaining r) _ h).1)
    (λ h. ⊎_elim (λ u. or_left (remaining r) _ u) (λ u. or_right (remaining r) _ (placed_old k gs r u)) (or_cases (remaining r) (placed gs r) e))

-- ---- the groups are whole
-- a route that has a group stays
kept_marked : (q : Route → Bool) (k : Group) (g : ℕ) (r : Route) → (q r ≡ true → remaining r ≡ false) → q r ≡ true → q (marked k g r) ≡ true
kept_marked q k g r h e =
    cond_both (remaining r && fits k r) (in_group g r) r (λ x. q x ≡ true)
    (λ u. absurd (both_ways _ (h e) (and_parts (remaining r) _ u).0)) (λ _. e)

some_kept : (q : Route → Bool) (k : Group) (g : ℕ) (t : List Route) → ((r : Route) → q r ≡ true → remaining r ≡ false) → list_any q t ≡ true → list_any q (mark k g t) ≡ true
some_kept q k g t h e = any_map q q (marked k g) (λ r. kept_marked q k g r (h r)) t e

in_old : (g : ℕ) (r : Route) → is_in g r ≡ true → remaining r ≡ false
in_old g r e = ap is_none (in_from g r e)

whole_kept : (k' k : Group) (g' g : ℕ) (t : List Route) → whole k' g' t ≡ true → whole k' g' (mark k g t) ≡ true
whole_kept (Star c) k g' g t e = some_kept (is_in g') k g t (in_old g') e
whole_kept (Triangle a b c) k g' g t e =
    let one : (x y : ℕ) → list_any (λ r. is_in g' r && side x y r) t ≡ true → list_any (λ r. is_in g' r && side x y r) (mark k g t) ≡ true = λ x y h. some_kept (λ r. is_in g' r && side x y r) k g t (λ r u. in_old g' r (and_parts (is_in g' r) _ u).0) h in
    let u = and_parts (list_any (λ r. is_in g' r && side a b r) t) _ e in
    let v = and_parts (list_any (λ r. is_in g' r && side a c r) t) _ u.1 in
    and_from _ _ (one a b u.0) (and_from _ _ (one a c v.0) (one b c v.1))

wholes_kept : (ks : List Group) (g' : ℕ) (k : Group) (g : ℕ) (t : List Route) → wholes g' ks t ≡ true → wholes g' ks (mark k g t) ≡ true
wholes_kept [] g' k g t e = refl
wholes_kept (x ∷ ks) g' k g t e =
    let u = and_parts (whole x g' t) _ e in
    and_from _ _ (whole_kept x k g' g t u.0) (wholes_kept ks (g' + 1) k g t u.1)

wholes_push : (ks : List Group) (g : ℕ) (k : Group) (t : List Route) → wholes g ks t ≡ true → whole k (g + length ks) t ≡ true → wholes g (ks ++ k ∷ []) t ≡ true
wholes_push [] g k t e h = and_from _ _ (subst (λ x. whole k x t ≡ true) (let z : g + 0 ≡ g = omega arith in z) h) refl
wholes_push (x ∷ ks) g k t e h =
    let u = and_parts (whole x g t) _ e in
    and_from _ _ u.0 (wholes_push ks (g + 1) k t u.1 (subst (λ y. whole k y t ≡ true) (let z : g + suc (length ks) ≡ g + 1 + length ks = omega arith in z) h))

-- ---- the new group is whole
degree_some : (t : List Route) (c : ℕ) → 0 < degree t c → list_any (on c) t ≡ true
degree_some [] c h = absurd (omega arith)
degree_some (r ∷ rs) c h = let i = degree_some rs c in grind (arith, nat_tests)

star_new : (c g : ℕ) (r : Route) → on c r ≡ true → is_in g (marked (Star c) g r) ≡ true
star_new c g r e = ap (λ b. is_in g (cond b (in_group g r) r)) e ∙ eq-eqb g g refl

-- a side x y of the triangle
side_new : (a b c x y g : ℕ) (r : Route) → (side x y r ≡ true → fits (Triangle a b c) r ≡ true) → joins x y r ≡ true → (is_in g (marked (Triangle a b c) g r) && side x y (marked (Triangle a b c) g r)) ≡ true
side_new a b c x y g r h e =
    let u = and_parts (remaining r) (side x y r) e in
    let m : marked (Triangle a b c) g r ≡ in_group g r = cond-true _ _ _ (and_from _ _ u.0 (h u.1)) in
    subst (λ z. (is_in g z && side x y z) ≡ true) (sym m) (and_from _ _ (eq-eqb g g refl) u.1)

whole_new : (k : Group) (g : ℕ) (t : List Route) → New k t → whole k g (mark k g t) ≡ true
whole_new (Star c) g t h = any_map (on c) (is_in g) (marked (Star c) g) (star_new c g) t (degree_some t c h)
whole_new (Triangle a b c) g t h =
    let p = and_parts (remains t a b) _ h.2 in
    let q = and_parts (remains t a c) _ p.1 in
    let u = and_parts (remains t b c) _ q.1 in
    let one : (x y : ℕ) → ((r : Route) → side x y r ≡ true → fits (Triangle a b c) r ≡ true) → remains t x y ≡ true → list_any (λ r. is_in g r && side x y r) (mark (Triangle a b c) g t) ≡ true =
    λ x y f e. any_map (joins x y) (λ r. is_in g r && side x y r) (marked (Triangle a b c) g) (λ r. side_new a b c x y g r (f r)) t e in
    and_from _ _ (one a b (λ r e. or_left (side a b r) _ e) p.0)
    (and_from _ _ (one a c (λ r e. or_right (side a b r) _ (or_left (side a c r) _ e)) q.0)
    (one b c (λ r e. or_right (side a b r) _ (or_right (side a c r) _ e)) u.0))

-- ---- what each written group keeps
abbrev pub Partly : List (ℕ × ℕ) → Work → Type 0
Partly es w = (ends w.table ≡ es) × (list_all (held w.groups) w.table ≡ true) × (wholes 0 w.groups w.table ≡ true)

pub partly_write : (n : ℕ) (es : List (ℕ × ℕ)) (k : Group) (w : Work) → Ready n w → New k w.table → Partly es w → Partly es (write k w)
partly_write n es k w r e h = (
  ends_mark k (length w.groups) w.table ∙ h.0,
  all_map (held w.groups) (held (w.groups ++ k ∷ [])) (marked k (length w.groups)) (held_marked k w.groups) w.table h.1,
  wholes_push w.groups 0 k (mark k (length w.groups) w.table) (wholes_kept w.groups 0 k (length w.groups) w.table h.2)
      (subst (λ x. whole k x (mark k (length w.groups) w.table) ≡ true) (let z : length w.groups ≡ 0 + length w.groups = omega arith in z) (whole_new k (length w.groups) w.table e)),
)

pub partly_rounds : (k n : ℕ) (es : List (ℕ × ℕ)) (w : Work) → Ready n w → Partly es w → Partly es (rounds k n w)
partly_rounds k n es w r h = (keeps_rounds n (Partly es) (partly_write n es) k w (r, h)).1
