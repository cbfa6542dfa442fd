-- The first answer among many, step by step, and what it tells where there is none.
use Rattle.std.proofs.Common.{◌≡◌, ℕ, zero, suc, ◌+◌, ◌-◌, ◌<◌, ◌≤◌, Bool, true, false, cond, not, ◌⊎◌, is_some, Some, None, Option, sym, refl, ap, ◌∙◌, subst, inl, inr, ⊎_elim, arith, MatchOption}
use Rattle.std.proofs.lemmas.Bool.Decides.{nat_tests}
use Rattle.std.proofs.lemmas.Bool.{cond-true, cond-false, cases_Bool, cases_eq, not-true, not-false}
use Rattle.std.specs.Option.{option_or}
use Rattle.routes.specs.Tests.{first, unless, first_failing, FailsFirst, LowestFailing}

-- ---- the steps of a loop that looks for the first answer
pub first_more : {X : Type 0} (f : ℕ → Option X) (n i : ℕ) → i < n → first f (n - i) i ≡ option_or (f i) (first f (n - (i + 1)) (i + 1))
first_more f n i h = let e : n - i ≡ suc (n - (i + 1)) = omega arith in rw e

pub first_skip : {X : Type 0} (f : ℕ → Option X) (n i : ℕ) → i < n → f i ≡ None → first f (n - i) i ≡ first f (n - (i + 1)) (i + 1)
first_skip f n i h e = first_more f n i h ∙ ap (λ o. option_or o (first f (n - (i + 1)) (i + 1))) e

pub first_hit : {X : Type 0} (f : ℕ → Option X) (n i : ℕ) (x : X) → i < n → f i ≡ Some x → first f (n - i) i ≡ Some x
first_hit f n i x h e = first_more f n i h ∙ ap (λ o. option_or o (first f (n - (i + 1)) (i + 1))) e

-- ---- what the first answer is, and where there is none
option_or_none : {X : Type 0} (o p : Option X) → option_or o p ≡ None → (o ≡ None) × (p ≡ None)
option_or_none None p e = (refl, e)
option_or_none (Some x) p e = cc

option_or_some : {X : Type 0} (o p : Option X) (x : X) → option_or o p ≡ Some x → (o ≡ Some x) ⊎ ((o ≡ None) × (p ≡ Some x))
option_or_some None p x e = inr (refl, e)
option_or_some (Some y) p x e = inl e

pub first_none : {X : Type 0} (f : ℕ → Option X) (k i : ℕ) → ((j : ℕ) → i ≤ j → j < i + k → f j ≡ None) → first f k i ≡ None
first_none f zero i h = refl
first_none f (suc k) i h =
    ap (λ o. option_or o (first f k (i + 1))) (h i (omega arith) (omega arith)) ∙ first_none f k (i + 1) (λ j l u. h j (omega arith) (omega arith))

pub none_first : {X : Type 0} (f : ℕ → Option X) (k i : ℕ) → first f k i ≡ None → (j : ℕ) → i ≤ j → j < i + k → f j ≡ None
none_first f zero i e j l h = absurd (omega arith)
none_first f (suc k) i e j l h =
    let q = option_or_none (f i) (first f k (i + 1)) e in
    ⊎_elim (λ d. subst (λ x. f x ≡ None) d q.0) (λ d. none_first f k (i + 1) q.1 j (omega arith) (omega arith)) (cases_eq i j)

-- an answer comes at a number, and none comes ahead of it
pub record Found {X : Type 0} (f : ℕ → Option X) (k i : ℕ) (x : X) : Type 0 where
  pub at : ℕ
  pub from : i ≤ at
  pub below : at < i + k
  pub is : f at ≡ Some x
  pub ahead : (j : ℕ) → i ≤ j → j < at → f j ≡ None

pub first_found : {X : Type 0} (f : ℕ → Option X) (k i : ℕ) (x : X) → first f k i ≡ Some x → Found f k i x
first_found f zero i x e = cc
first_found f (suc k) i x e =
    ⊎_elim (λ h. record { at = i; from = omega arith; below = omega arith; is = h; ahead = λ j l u. absurd (omega arith) })
    (λ h.
    let q = first_found f k (i + 1) x h.1 in
    record { at = q.at; from = omega (arith, q.from); below = omega (arith, q.below); is = q.is; ahead = λ j l u. ⊎_elim (λ d. subst (λ y. f y ≡ None) d h.0) (λ d. q.ahead j (omega arith) u) (cases_eq i j) })
    (option_or_some (f i) (first f k (i + 1)) x e)

pub found_first : {X : Type 0} (f : ℕ → Option X) (k i j : ℕ) (x : X) → i ≤ j → j < i + k → ((l : ℕ) → i ≤ l → l < j → f l ≡ None) → f j ≡ Some x → first f k i ≡ Some x
found_first f zero i j x l h b e = absurd (omega arith)
found_first f (suc k) i j x l h b e =
    ⊎_elim (λ d. ap (λ o. option_or o (first f k (i + 1))) (subst (λ y. f y ≡ Some x) (sym d) e))
    (λ d.
    ap (λ o. option_or o (first f k (i + 1))) (b i (omega arith) (omega arith)) ∙
    found_first f k (i + 1) j x (omega arith) (omega arith) (λ m u v. b m (omega arith) v) e)
    (cases_eq i j)

-- ---- the first number at which a test fails
unless_none : (b : Bool) (i : ℕ) → cond b None (Some i) ≡ None → b ≡ true
unless_none b i e = grind (arith, nat_tests)

unless_some : (b : Bool) (i x : ℕ) → cond b None (Some i) ≡ Some x → (b ≡ false) × (i ≡ x)
unless_some b i x e = (grind (arith, nat_tests), grind (arith, nat_tests))

pub first_failing_none : (p : ℕ → Bool) (n : ℕ) → first_failing p n ≡ None → (i : ℕ) → i < n → p i ≡ true
first_failing_none p n e i h = unless_none (p i) i (none_first (unless p) n 0 e i (omega arith) (omega arith))

pub first_failing_passes : (p : ℕ → Bool) (n : ℕ) → ((i : ℕ) → i < n → p i ≡ true) → first_failing p n ≡ None
first_failing_passes p n h = first_none (unless p) n 0 (λ j l u. cond-true (p j) None (Some j) (h j (omega arith)))

pub first_failing_some : (p : ℕ → Bool) (n x : ℕ) → first_failing p n ≡ Some x → FailsFirst p n x
first_failing_some p n x e =
    let q = first_found (unless p) n 0 x e in
    let s = unless_some (p q.at) q.at x q.is in
    subst (FailsFirst p n) s.1 (record { below = omega (arith, q.below); fails = s.0; passes = λ j h. unless_none (p j) j (q.ahead j (omega arith) h) })

pub first_failing_at : (p : ℕ → Bool) (n x : ℕ) → x < n → ((j : ℕ) → j < x → p j ≡ true) → p x ≡ false → first_failing p n ≡ Some x
first_failing_at p n x h b f = found_first (unless p) n 0 x x (omega arith) (omega arith) (λ j u v. cond-true (p j) None (Some j) (b j v)) (cond-false (p x) None (Some x) f)

-- the lowest number at which the test fails is the one that was looked for
pub first_failing_is : (p : ℕ → Bool) (n : ℕ) (o : Option ℕ) → LowestFailing p n o → o ≡ first_failing p n
first_failing_is p n None h = sym (first_failing_passes p n h)
first_failing_is p n (Some x) h = sym (first_failing_at p n x h.below h.passes h.fails)

-- what `find` over the numbers from a up to n says, where a is 0
pub lowest_in_range : (p : ℕ → Bool) (a n : ℕ) (o : Option ℕ) → a ≡ 0 →
    MatchOption o ((k : ℕ) → a ≤ k → k < n → p k ≡ true) (λ i. (a ≤ i) × (i < n) × (p i ≡ false) × ((k : ℕ) → a ≤ k → k < i → p k ≡ true)) → LowestFailing p n o
lowest_in_range p a n None z h = λ k l. h k (omega arith) l
lowest_in_range p a n (Some x) z h = record { below = h.1; fails = h.2; passes = λ k l. h.3 k (omega arith) l }

-- ---- two tests that agree fail first at the same number
pub first_same : {X : Type 0} (f h : ℕ → Option X) (k i : ℕ) → ((j : ℕ) → i ≤ j → j < i + k → f j ≡ h j) → first f k i ≡ first h k i
first_same f h zero i e = refl
first_same f h (suc k) i e =
    let a = e i (omega arith) (omega arith) in
    let b = first_same f h k (i + 1) (λ j l u. e j (omega arith) (omega arith)) in
    cc

-- ---- `is_none` answers the test that passes exactly where there is no answer
pub is_none_test : {X : Type 0} (o : Option X) (b x : Bool) → (o ≡ None → x ≡ true) → (x ≡ true → o ≡ None) → is_some o ≡ not b → b ≡ x
is_none_test None b x p q e = not-false b (sym e) ∙ sym (p refl)
is_none_test (Some y) b x p q e =
    ⊎_elim (λ t. let n = q t in (cc)) (λ f. not-true b (sym e) ∙ sym f) (cases_Bool x)
