-- Whether a table is in order, from its places.
use Rattle.std.specs.Prelude.{◌↔◌}
use Rattle.std.proofs.Common.{◌≡◌, ℕ, zero, suc, ◌-◌, ◌<◌, Bool, true, eqb, List, [], ◌∷◌, length, get_or, None, Option, sym, refl, ◌∙◌, subst, arith}
use Rattle.std.proofs.lemmas.List.{length-map, get_or-map}
use Rattle.std.proofs.lemmas.List.Sums.{AllPass-from_list_all}
use Rattle.std.proofs.lemmas.Bool.Decides.{nat_tests}
use Rattle.std.proofs.lemmas.Bool.{and_parts, and_from, or_right}
use Rattle.routes.specs.declared.route.Route.{Route}
use Rattle.std.specs.List.{list_all}
use Rattle.routes.specs.Order.{no_route, pair, ends, before, inside, ascending, ordered, in_order, first_unordered}
use Rattle.routes.proofs.Firsts.{first_failing_none, first_failing_passes}

-- ---- the ends of the routes
pub length_ends : (t : List Route) → length (ends t) ≡ length t
length_ends t = length-map t pair

-- ---- before orders the ends
before_trans : (x y z : ℕ × ℕ) → before x y ≡ true → before y z ≡ true → before x z ≡ true
before_trans x y z p q = grind (arith, nat_tests)

-- ---- from the table to its places
each_end : (p : ℕ × ℕ → Bool) (t : List Route) (k : ℕ) → list_all p (ends t) ≡ true → k < length t → p (pair (get_or t k no_route)) ≡ true
each_end p t k e h = subst (λ x. p x ≡ true) (get_or-map pair t k no_route (0, 0) h) (AllPass-from_list_all p (ends t) e k (0, 0) (omega (arith, length_ends t)))

pub inside_at : (n : ℕ) (t : List Route) (k : ℕ) → ordered n (ends t) ≡ true → k < length t → inside n (pair (get_or t k no_route)) ≡ true
inside_at n t k o h = each_end (inside n) t k (and_parts (list_all (inside n) (ends t)) _ o).0 h

-- an earlier route is before a later one
pub ascends_at : (t : List Route) (j k : ℕ) → ascending (ends t) ≡ true → j < k → k < length t → before (pair (get_or t j no_route)) (pair (get_or t k no_route)) ≡ true
ascends_at [] j k e l h = absurd (omega arith)
ascends_at (r ∷ rs) zero (suc k) e l h = each_end (before (pair r)) rs k (and_parts (list_all (before (pair r)) (ends rs)) _ e).0 (omega arith)
ascends_at (r ∷ rs) (suc j) (suc k) e l h = ascends_at rs j k (and_parts (list_all (before (pair r)) (ends rs)) _ e).1 (omega arith) (omega arith)
ascends_at (r ∷ rs) j zero e l h = absurd (omega arith)

-- ---- from the places to the table
inside_from : (n : ℕ) (t : List Route) → ((k : ℕ) → k < length t → inside n (pair (get_or t k no_route)) ≡ true) → list_all (inside n) (ends t) ≡ true
inside_from n [] h = refl
inside_from n (r ∷ rs) h = and_from _ _ (h 0 (omega arith)) (inside_from n rs (λ k l. h (suc k) (omega arith)))

-- each route is before the next
abbrev Chain : List Route → Type 0
Chain t = (k : ℕ) → suc k < length t → before (pair (get_or t k no_route)) (pair (get_or t (suc k) no_route)) ≡ true

chain_rest : (r : Route) (rs : List Route) → Chain (r ∷ rs) → Chain rs
chain_rest r rs c k l = c (suc k) (omega arith)

all_after : (x : ℕ × ℕ) (t : List Route) → Chain t → (0 < length t → before x (pair (get_or t 0 no_route)) ≡ true) → list_all (before x) (ends t) ≡ true
all_after x [] c h = refl
all_after x (r ∷ rs) c h =
    and_from _ _ (h (omega arith)) (all_after x rs (chain_rest r rs c) (λ l. before_trans x (pair r) (pair (get_or rs 0 no_route)) (h (omega arith)) (c 0 (omega arith))))

all_ascend : (t : List Route) → Chain t → ascending (ends t) ≡ true
all_ascend [] c = refl
all_ascend (r ∷ rs) c = and_from _ _ (all_after (pair r) rs (chain_rest r rs c) (λ l. c 0 (omega arith))) (all_ascend rs (chain_rest r rs c))

-- ---- a table is in order exactly when no route is the first out of order
in_order_before : (n : ℕ) (t : List Route) (k : ℕ) → in_order n t (suc k) ≡ true → before (pair (get_or t k no_route)) (pair (get_or t (suc k) no_route)) ≡ true
in_order_before n t k e = let back : suc k - 1 ≡ k = omega arith in let u = rw back at e in grind (arith, nat_tests)

in_order_at : (n : ℕ) (t : List Route) (i : ℕ) → ordered n (ends t) ≡ true → i < length t → in_order n t i ≡ true
in_order_at n t zero o h = and_from (inside n (pair (get_or t 0 no_route))) _ (inside_at n t 0 o h) refl
in_order_at n t (suc i) o h =
    and_from (inside n (pair (get_or t (suc i) no_route))) _ (inside_at n t (suc i) o h)
    (or_right (eqb (suc i) 0) _ (ascends_at t (suc i - 1) (suc i) (and_parts (list_all (inside n) (ends t)) _ o).1 (omega arith) h))

pub ordered_none : (n : ℕ) (t : List Route) → first_unordered n t ≡ None → ordered n (ends t) ≡ true
ordered_none n t e =
    let p = first_failing_none (in_order n t) (length t) e in
    and_from _ _ (inside_from n t (λ k h. (and_parts (inside n (pair (get_or t k no_route))) _ (p k h)).0)) (all_ascend t (λ k h. in_order_before n t k (p (suc k) h)))

pub none_unordered : (n : ℕ) (t : List Route) → ordered n (ends t) ≡ true → first_unordered n t ≡ None
none_unordered n t o = first_failing_passes (in_order n t) (length t) (λ i h. in_order_at n t i o h)

pub unordered_exact : (n : ℕ) (t : List Route) (r : Option ℕ) → r ≡ first_unordered n t → (r ≡ None) ↔ (ordered n (ends t) ≡ true)
unordered_exact n t r e = (λ h. ordered_none n t (sym e ∙ h), λ o. e ∙ none_unordered n t o)
