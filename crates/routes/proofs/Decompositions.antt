-- The test of a grouping, from its parts, and that it passes exactly where the grouping is an edge decomposition.
use Rattle.std.proofs.Common.{◌≡◌, ℕ, zero, suc, ◌+◌, ◌<◌, Bool, true, not, ◌&&◌, eqb, ltb, ◌⊎◌, List, [], ◌∷◌, length, get_or, is_some, IsSomeAnd, Some, None, Decides, Option, sym, refl, ap, ◌∙◌, subst, arith}
use Rattle.std.proofs.lemmas.List.Folds.{list_any_at}
use Rattle.std.proofs.lemmas.List.Sums.{AllPass-from_list_all}
use Rattle.std.proofs.lemmas.Bool.Decides.{nat_tests}
use Rattle.std.proofs.lemmas.Bool.{and_parts, and_from, eqb-true, eq-eqb, lt-ltb, ltb-true, false≢true}
use Rattle.routes.specs.declared.route.Route.{Route}
use Rattle.routes.specs.declared.route.Group.{Group}
use Rattle.routes.specs.declared.route.Group.TheVariants.{Star, Triangle}
use Rattle.std.specs.List.{list_all}
use Rattle.routes.specs.Tests.{is_some_and}
use Rattle.routes.specs.Order.{no_route, pair}
use Rattle.routes.specs.Groups.{is_in, side, fits, placed, placed_at, has_side, whole, whole_at, wholes, decomposed, first_misplaced, first_incomplete}
use Rattle.routes.specs.Decomposition.{Member, Joined, Shaped, Decomposition}
use Rattle.routes.proofs.Firsts.{first_failing_none, first_failing_passes, is_none_test}
use Rattle.routes.proofs.Lists.{all_from_places, any_place}

-- ---- the groups are whole, each at its number
wholes_at : (gs : List Group) (g : ℕ) (t : List Route) (i : ℕ) → i < length gs → wholes g gs t ≡ true → whole (get_or gs i (Star 0)) (g + i) t ≡ true
wholes_at [] g t i h e = absurd (omega arith)
wholes_at (k ∷ ks) g t zero h e = let z : g + 0 ≡ g = omega arith in rw z (and_parts (whole k g t) (wholes (g + 1) ks t) e).0
wholes_at (k ∷ ks) g t (suc i) h e =
    let z : g + suc i ≡ g + 1 + i = omega arith in rw z (wholes_at ks (g + 1) t i (omega arith) (and_parts (whole k g t) (wholes (g + 1) ks t) e).1)

wholes_from : (gs : List Group) (g : ℕ) (t : List Route) → ((i : ℕ) → i < length gs → whole (get_or gs i (Star 0)) (g + i) t ≡ true) → wholes g gs t ≡ true
wholes_from [] g t h = refl
wholes_from (k ∷ ks) g t h =
    let z : g + 0 ≡ g = omega arith in
    and_from (whole k g t) (wholes (g + 1) ks t) (rw z at (h 0 (omega arith)))
    (wholes_from ks (g + 1) t (λ i l. let y : g + 1 + i ≡ g + suc i = omega arith in rw y (h (suc i) (omega arith))))

each_whole : (t : List Route) (gs : List Group) (g : ℕ) → wholes 0 gs t ≡ true → g < length gs → whole_at t gs g ≡ true
each_whole t gs g w h = let z : 0 + g ≡ g = omega arith in rw z at (wholes_at gs 0 t g h w)

wholes_each : (t : List Route) (gs : List Group) → ((g : ℕ) → g < length gs → whole_at t gs g ≡ true) → wholes 0 gs t ≡ true
wholes_each t gs w = wholes_from gs 0 t (λ g h. let z : 0 + g ≡ g = omega arith in rw z (w g h))

-- ---- the tests pass exactly where no record is the first that fails
placed_none : (t : List Route) (gs : List Group) → first_misplaced t gs ≡ None → list_all (placed gs) t ≡ true
placed_none t gs e = all_from_places (placed gs) t no_route (first_failing_none (placed_at t gs) (length t) e)

none_misplaced : (t : List Route) (gs : List Group) → list_all (placed gs) t ≡ true → first_misplaced t gs ≡ None
none_misplaced t gs e = first_failing_passes (placed_at t gs) (length t) (λ i h. AllPass-from_list_all (placed gs) t e i no_route h)

wholes_none : (t : List Route) (gs : List Group) → first_incomplete t gs ≡ None → wholes 0 gs t ≡ true
wholes_none t gs e = wholes_each t gs (first_failing_none (whole_at t gs) (length gs) e)

none_incomplete : (t : List Route) (gs : List Group) → wholes 0 gs t ≡ true → first_incomplete t gs ≡ None
none_incomplete t gs e = first_failing_passes (whole_at t gs) (length gs) (λ g h. each_whole t gs g e h)

pub decomposed_none : (t : List Route) (gs : List Group) → first_misplaced t gs ≡ None → first_incomplete t gs ≡ None → decomposed t gs ≡ true
decomposed_none t gs p w = and_from (list_all (placed gs) t) (wholes 0 gs t) (placed_none t gs p) (wholes_none t gs w)

pub none_undecomposed : (t : List Route) (gs : List Group) → decomposed t gs ≡ true → (first_misplaced t gs ≡ None) × (first_incomplete t gs ≡ None)
none_undecomposed t gs e =
    let u = and_parts (list_all (placed gs) t) (wholes 0 gs t) e in (none_misplaced t gs u.0, none_incomplete t gs u.1)

-- ---- what `is_none` answers of them
pub placed_test : (t : List Route) (gs : List Group) (o : Option ℕ) (b : Bool) → o ≡ first_misplaced t gs → is_some o ≡ not b → b ≡ list_all (placed gs) t
placed_test t gs o b e h = is_none_test (first_misplaced t gs) b (list_all (placed gs) t) (placed_none t gs) (none_misplaced t gs) (ap is_some (sym e) ∙ h)

pub wholes_test : (t : List Route) (gs : List Group) (o : Option ℕ) (b : Bool) → o ≡ first_incomplete t gs → is_some o ≡ not b → b ≡ wholes 0 gs t
wholes_test t gs o b e h = is_none_test (first_incomplete t gs) b (wholes 0 gs t) (wholes_none t gs) (none_incomplete t gs) (ap is_some (sym e) ∙ h)

-- ---- the group of a route
pub passing : {X : Type 0} (p : X → Bool) (o : Option X) → is_some_and p o ≡ true → (x : X) × (o ≡ Some x) × (p x ≡ true)
passing p None e = absurd (false≢true e)
passing p (Some x) e = (x, refl, e)

pub holds : {X : Type 0} (o : Option X) (P : X → Type 0) → IsSomeAnd o P → (x : X) × (o ≡ Some x) × P x
holds None P e = absurd e
holds (Some x) P e = (x, refl, e)

pub in_from : (g : ℕ) (r : Route) → is_in g r ≡ true → r.group ≡ Some g
in_from g r e = let q = passing (λ k. eqb k g) r.group e in q.1 ∙ ap Some (eqb-true q.0 g q.2)

pub in_to : (g : ℕ) (r : Route) → r.group ≡ Some g → is_in g r ≡ true
in_to g r e = ap (is_some_and (λ k. eqb k g)) e ∙ eq-eqb g g refl

-- a route of the group g is placed exactly where the group is there and fits it
pub placed_in : (gs : List Group) (g : ℕ) (r : Route) → r.group ≡ Some g → placed gs r ≡ (ltb g (length gs) && fits (get_or gs g (Star 0)) r)
placed_in gs g r e = ap (is_some_and (λ k. ltb k (length gs) && fits (get_or gs k (Star 0)) r)) e

-- ---- the sides of a triangle
pub pair_side : (a b : ℕ) (r : Route) → side a b r ≡ true → pair r ≡ (a, b)
pair_side a b r e = grind (arith, nat_tests)

pub side_pair : (a b : ℕ) (r : Route) → pair r ≡ (a, b) → side a b r ≡ true
side_pair a b r e = grind (arith, nat_tests)

joined_from : (t : List Route) (g a b : ℕ) → has_side t g a b ≡ true → Joined t g (a, b)
joined_from t g a b e =
    let s = any_place (λ r. is_in g r && side a b r) t no_route e in
    let h = and_parts (is_in g (get_or t s.0 no_route)) _ s.2 in
    (s.0, (s.1, in_from g (get_or t s.0 no_route) h.0), pair_side a b (get_or t s.0 no_route) h.1)

side_from : (t : List Route) (g a b : ℕ) → Joined t g (a, b) → has_side t g a b ≡ true
side_from t g a b j =
    list_any_at (λ r. is_in g r && side a b r) t j.0 no_route j.1.0
    (and_from _ _ (in_to g (get_or t j.0 no_route) j.1.1) (side_pair a b (get_or t j.0 no_route) j.2))

-- ---- from the test to the decomposition
inhabited_from : (k : Group) (g : ℕ) (t : List Route) → whole k g t ≡ true → (i : ℕ) × Member t g i
inhabited_from (Star c) g t e =
    let s = any_place (is_in g) t no_route e in (s.0, (s.1, in_from g (get_or t s.0 no_route) s.2))
inhabited_from (Triangle a b c) g t e = let j = joined_from t g a b (and_parts (has_side t g a b) _ e).0 in (j.0, j.1)

shaped_from : (k : Group) (g : ℕ) (t : List Route) → ((i : ℕ) → Member t g i → fits k (get_or t i no_route) ≡ true) → whole k g t ≡ true → Shaped t g k
shaped_from (Star c) g t f e = λ i m. let u = f i m in grind (arith, nat_tests)
shaped_from (Triangle a b c) g t f e =
    let u = and_parts (has_side t g a b) (has_side t g a c && has_side t g b c) e in
    let v = and_parts (has_side t g a c) (has_side t g b c) u.1 in
    (λ i m. let w = f i m in grind (arith, nat_tests), joined_from t g a b u.0, joined_from t g a c v.0, joined_from t g b c v.1)

-- the group of a route that is placed fits it
pub fits_at : (t : List Route) (gs : List Group) (g i : ℕ) → list_all (placed gs) t ≡ true → Member t g i → fits (get_or gs g (Star 0)) (get_or t i no_route) ≡ true
fits_at t gs g i p m =
    (and_parts (ltb g (length gs)) _ (sym (placed_in gs g (get_or t i no_route) m.1) ∙ AllPass-from_list_all (placed gs) t p i no_route m.0)).1

pub decomposition_from : (t : List Route) (gs : List Group) → decomposed t gs ≡ true → Decomposition t gs
decomposition_from t gs e =
    let u = and_parts (list_all (placed gs) t) (wholes 0 gs t) e in
    record {
      covered = λ i h.
          let q = passing _ (get_or t i no_route).group (AllPass-from_list_all (placed gs) t u.0 i no_route h) in
          subst (λ o. IsSomeAnd o (λ g. g < length gs)) (sym q.1) (ltb-true q.0 (length gs) (and_parts (ltb q.0 (length gs)) _ q.2).0);
      inhabited = λ g h. inhabited_from (get_or gs g (Star 0)) g t (each_whole t gs g u.1 h);
      shaped = λ g h. shaped_from (get_or gs g (Star 0)) g t (λ i m. fits_at t gs g i u.0 m) (each_whole t gs g u.1 h);
    }

-- ---- from the decomposition to the test
fits_from : (k : Group) (g : ℕ) (t : List Route) → Shaped t g k → (i : ℕ) → Member t g i → fits k (get_or t i no_route) ≡ true
fits_from (Star c) g t s i m = let u = s i m in grind (arith, nat_tests)
fits_from (Triangle a b c) g t s i m = let u = s.0 i m in grind (arith, nat_tests)

whole_from : (k : Group) (g : ℕ) (t : List Route) → (i : ℕ) × Member t g i → Shaped t g k → whole k g t ≡ true
whole_from (Star c) g t m s = list_any_at (is_in g) t m.0 no_route m.1.0 (in_to g (get_or t m.0 no_route) m.1.1)
whole_from (Triangle a b c) g t m s =
    and_from _ _ (side_from t g a b s.1) (and_from _ _ (side_from t g a c s.2) (side_from t g b c s.3))

pub decomposed_from : (t : List Route) (gs : List Group) → Decomposition t gs → decomposed t gs ≡ true
decomposed_from t gs d =
    and_from (list_all (placed gs) t) (wholes 0 gs t)
    (all_from_places (placed gs) t no_route
    (λ i h.
    let k = holds (get_or t i no_route).group (λ g. g < length gs) (d.covered i h) in
    let g = k.0 in
    placed_in gs g (get_or t i no_route) k.1 ∙ and_from (ltb g (length gs)) _ (lt-ltb g (length gs) k.2) (fits_from (get_or gs g (Star 0)) g t (d.shaped g k.2) i (h, k.1))))
    (wholes_each t gs (λ g h. whole_from (get_or gs g (Star 0)) g t (d.inhabited g h) (d.shaped g h)))

pub decomposed_exact : (t : List Route) (gs : List Group) (r : Bool) → r ≡ decomposed t gs → Decides r (Decomposition t gs)
decomposed_exact t gs r e = (λ h. decomposition_from t gs (sym e ∙ h), λ d. e ∙ decomposed_from t gs d)

-- ---- two routes of one group share a station
pub fits_meet : (k : Group) (r s : Route) → fits k r ≡ true → fits k s ≡ true → (r.low ≡ s.low) ⊎ ((r.low ≡ s.high) ⊎ ((r.high ≡ s.low) ⊎ (r.high ≡ s.high)))
fits_meet (Star c) r s e f = grind (arith, nat_tests)
fits_meet (Triangle a b c) r s e f = grind (arith, nat_tests)
