-- What each rule takes, and what it tells where there is nothing to take.
use Rattle.std.proofs.Common.{◌≡◌, ℕ, zero, suc, ◌+◌, ◌-◌, ◌<◌, ◌≤◌, Bool, true, false, cond, eqb, ltb, ◌⊎◌, List, [], ◌∷◌, length, get_or, Some, None, Option, sym, refl, ◌∙◌, subst, inl, inr, ⊎_elim, arith, MatchOption}
use Rattle.std.proofs.lemmas.Bool.{cases_Bool, cond-true, cond-false, eqb-true, eq-eqb, ltb-true, ltb-false}
use Rattle.routes.specs.declared.route.Route.{Route}
use Rattle.routes.specs.Order.{no_route}
use Rattle.routes.proofs.Firsts.{none_first, first_found}
use Rattle.regrouping.specs.Table.{remaining, degree, lone, leaf, loose, third, second, lowest, triangle, weight, best, best_from}
use Rattle.regrouping.specs.Taking.{IsLeaf, NoLeaf, Corners, IsFirstLoose, NoLoose, RemainsAt, weight_at, IsHeaviest, NoneRemains, RulesTake}
use Rattle.regrouping.proofs.Tables.{ends_live}

-- ---- an answer where a test passes
pub hit_is : {X : Type 0} (b : Bool) (y x : X) → cond b (Some y) None ≡ Some x → (b ≡ true) × (y ≡ x)
hit_is true y x e = (refl, cc)
hit_is false y x e = cc

missed : {X : Type 0} (b : Bool) (x : X) → cond b (Some x) None ≡ None → b ≡ true → ⊥
missed b x e h = let t = cond-true b (Some x) None h in (cc)

cases_from : {X : Type 0} (o : Option X) (P : Type 0) (Q : X → Type 0) → (o ≡ None → P) → ((x : X) → o ≡ Some x → Q x) → MatchOption o P Q
cases_from None P Q none some = none refl
cases_from (Some x) P Q none some = some x refl

-- an option that holds nothing
pub none_from : {X : Type 0} (o : Option X) → ((x : X) → o ≡ Some x → ⊥) → o ≡ None
none_from None h = refl
none_from (Some x) h = absurd (h x refl)

-- ---- the leaf
pub leaf_none : (t : List Route) (n : ℕ) → leaf t n ≡ None → NoLeaf t n
leaf_none t n e s h d = missed (eqb (degree t s) 1) s (none_first (lone (degree t)) n 0 e s (omega arith) (omega arith)) (eq-eqb (degree t s) 1 d)

pub leaf_some : (t : List Route) (n s : ℕ) → leaf t n ≡ Some s → IsLeaf t n s
leaf_some t n s e =
    let q = first_found (lone (degree t)) n 0 s e in
    let h = hit_is (eqb (degree t q.at) 1) q.at s q.is in
    subst (IsLeaf t n) h.1 (record { station = omega (arith, q.below); lone = eqb-true _ 1 h.0; lowest = λ j l d. missed (eqb (degree t j) 1) j (q.ahead j (omega arith) l) (eq-eqb (degree t j) 1 d) })

-- ---- the loose triangle
second_none : (t : List Route) (n a b c : ℕ) → second t n a b ≡ None → b < c → c < n → loose t a b c ≡ true → ⊥
second_none t n a b c e h l = missed (loose t a b c) (a, b, c) (none_first (third t a b) (n - (b + 1)) (b + 1) e c (omega arith) (omega arith))

lowest_none : (t : List Route) (n a b c : ℕ) → lowest t n a ≡ None → a < b → b < c → c < n → loose t a b c ≡ true → ⊥
lowest_none t n a b c e h k l = second_none t n a b c (none_first (second t n a) (n - (a + 1)) (a + 1) e b (omega arith) (omega arith)) k l

pub triangle_none : (t : List Route) (n : ℕ) → triangle t n ≡ None → NoLoose t n
triangle_none t n e x h =
    lowest_none t n x.0 x.1 x.2 (none_first (lowest t n) n 0 e x.0 (omega arith) (omega (arith, h.lower, h.higher, h.station))) h.lower h.higher h.station h.is

pub triangle_some : (t : List Route) (n : ℕ) (x : Corners) → triangle t n ≡ Some x → IsFirstLoose t n x
triangle_some t n x e =
    let a = first_found (lowest t n) n 0 x e in
    let b = first_found (second t n a.at) (n - (a.at + 1)) (a.at + 1) x a.is in
    let c = first_found (third t a.at b.at) (n - (b.at + 1)) (b.at + 1) x b.is in
    let h = hit_is (loose t a.at b.at c.at) (a.at, b.at, c.at) x c.is in
    subst (IsFirstLoose t n) h.1 (
    record {
      triangle = record { lower = omega (arith, b.from); higher = omega (arith, c.from); station = omega (arith, c.below, c.from); is = h.0 };
      first = λ y l. ⊎_elim
          (λ k. lowest_none t n y.0 y.1 y.2 (a.ahead y.0 (omega arith) k) l.lower l.higher l.station l.is)
          (λ k. ⊎_elim
          (λ m. second_none t n y.0 y.1 y.2 (subst (λ s. second t n s y.1 ≡ None) (sym k.0) (b.ahead y.1 (omega (arith, k.0, l.lower)) m)) l.higher l.station l.is)
          (λ m. missed (loose t y.0 y.1 y.2) (y.0, y.1, y.2)
          (subst (λ s. third t s y.1 y.2 ≡ None) (sym k.0) (subst (λ s. third t a.at s y.2 ≡ None) (sym m.0) (c.ahead y.2 (omega (arith, m.0, l.higher)) m.1))) l.is) k.1);
    }
    )

-- ---- the heaviest route
-- the first place of the largest value of f above top
record Largest (f : Route → ℕ) (t : List Route) (i top j : ℕ) : Type 0 where
  pub at : ℕ
  pub is : j ≡ i + at
  pub place : at < length t
  pub above : top < f (get_or t at no_route)
  pub most : (k : ℕ) → k < length t → f (get_or t k no_route) ≤ f (get_or t at no_route)
  pub first : (k : ℕ) → k < at → f (get_or t k no_route) < f (get_or t at no_route)

-- no value of f is above top
abbrev NoneAbove : (Route → ℕ) → List Route → ℕ → Type 0
NoneAbove f t top = (k : ℕ) → k < length t → f (get_or t k no_route) ≤ top

-- what best-from answers: what it had, or the first place of the largest value
abbrev Judged : (Route → ℕ) → List Route → ℕ → ℕ → Option ℕ → Option ℕ → Type 0
Judged f t i top b o = ((o ≡ b) × NoneAbove f t top) ⊎ ((j : ℕ) × (o ≡ Some j) × Largest f t i top j)

none_more : (f : Route → ℕ) (r : Route) (rs : List Route) (top : ℕ) → f r ≤ top → NoneAbove f rs top → NoneAbove f (r ∷ rs) top
none_more f r rs top h q zero l = h
none_more f r rs top h q (suc k) l = q k (omega arith)

largest_here : (f : Route → ℕ) (r : Route) (rs : List Route) (i top : ℕ) → top < f r → NoneAbove f rs (f r) → Largest f (r ∷ rs) i top i
largest_here f r rs i top h q =
    record { at = 0; is = omega arith; place = omega arith; above = h; most = none_more f r rs (f r) (omega arith) q; first = λ k l. absurd (omega arith) }

largest_later : (f : Route → ℕ) (r : Route) (rs : List Route) (i top high j : ℕ) → f r ≤ high → top ≤ high → Largest f rs (i + 1) high j → Largest f (r ∷ rs) i top j
largest_later f r rs i top high j h l q =
    record {
      at = suc q.at;
      is = omega (arith, q.is);
      place = omega (arith, q.place);
      above = omega (arith, q.above);
      most = none_more f r rs (f (get_or rs q.at no_route)) (omega (arith, q.above)) q.most;
      first = λ k. first_more k;
    }
  where
    first_more : (k : ℕ) → k < suc q.at → f (get_or (r ∷ rs) k no_route) < f (get_or rs q.at no_route)
    first_more zero m = omega (arith, q.above)
    first_more (suc k) m = q.first k (omega arith)

judged : (f : Route → ℕ) (t : List Route) (i top : ℕ) (b : Option ℕ) → Judged f t i top b (best_from f t i top b)
judged f [] i top b = inl (refl, λ k l. absurd (omega arith))
judged f (r ∷ rs) i top b =
    ⊎_elim
    (λ h.
    let e = cond-true (ltb top (f r)) (best_from f rs (i + 1) (f r) (Some i)) (best_from f rs (i + 1) top b) h in
    let l = ltb-true top (f r) h in
    ⊎_elim (λ q. inr (i, e ∙ q.0, largest_here f r rs i top l q.1)) (λ q. inr (q.0, e ∙ q.1, largest_later f r rs i top (f r) q.0 (omega arith) (omega arith) q.2))
    (judged f rs (i + 1) (f r) (Some i)))
    (λ h.
    let e = cond-false (ltb top (f r)) (best_from f rs (i + 1) (f r) (Some i)) (best_from f rs (i + 1) top b) h in
    let l = ltb-false top (f r) h in
    ⊎_elim (λ q. inl (e ∙ q.0, none_more f r rs top l q.1)) (λ q. inr (q.0, e ∙ q.1, largest_later f r rs i top top q.0 l (omega arith) q.2))
    (judged f rs (i + 1) top b))
    (cases_Bool (ltb top (f r)))

-- a route has a weight exactly where it remains
weight_remains : (t : List Route) (i : ℕ) → RemainsAt t i → 0 < weight_at t i
weight_remains t i h =
    let r = get_or t i no_route in
    let z = cond-true (remaining r) (degree t r.low + degree t r.high) 0 h.is in
    omega (arith, z, (ends_live t i h.place h.is).0)

remains_weight : (t : List Route) (i : ℕ) → i < length t → 0 < weight_at t i → RemainsAt t i
remains_weight t i h p =
    let r = get_or t i no_route in
    ⊎_elim (λ o. record { place = h; is = o }) (λ o. absurd (let z = cond-false (remaining r) (degree t r.low + degree t r.high) 0 o in omega arith)) (cases_Bool (remaining r))

pub best_none : (t : List Route) → best t ≡ None → NoneRemains t
best_none t e i h =
    ⊎_elim (λ q. let w = weight_remains t i h in omega (arith, q.1 i h.place, w)) (λ q. let s = q.1 in (cc))
    (judged (weight t) t 0 0 None)

pub best_some : (t : List Route) (i : ℕ) → best t ≡ Some i → IsHeaviest t i
best_some t i e =
    ⊎_elim (λ q. let s = q.0 in (cc))
    (λ q.
    let s = q.1 in
    let l = q.2 in
    let d : q.0 ≡ i = cc in
    let k : l.at ≡ i = omega (arith, l.is, d) in
    subst (IsHeaviest t) k (record { remains = remains_weight t l.at l.place l.above; most = λ j h. l.most j h.place; first = λ j h _. l.first j h }))
    (judged (weight t) t 0 0 None)

-- ---- the three rules
pub rules_take : (n : ℕ) (t : List Route) → RulesTake n t
rules_take n t =
    record {
      leaf_rule = cases_from (leaf t n) (NoLeaf t n) (IsLeaf t n) (leaf_none t n) (leaf_some t n);
      triangle_rule = cases_from (triangle t n) (NoLoose t n) (IsFirstLoose t n) (triangle_none t n) (triangle_some t n);
      heaviest_rule = cases_from (best t) (NoneRemains t) (IsHeaviest t) (best_none t) (best_some t);
    }
