-- What a join replies and names, by where the two stations lie, with facts in place of tests: the way
-- from the laws of both plans to those of the join, step by step. Assumes nothing.
use Rattle.std.specs.Prelude.{◌≡◌, ℕ, ◌+◌, ◌-◌, ◌<◌, ◌≤◌, Bool, true, false, cond, refl}
use Rattle.std.proofs.Common.{sym, ap, subst, ◌∙◌, inl, inr, ⊎_elim, arith}
use Rattle.std.proofs.lemmas.Bool.{cases_lt, and_parts, leb-true, ltb-true}
use Rattle.std.proofs.lemmas.Bool.Decides.{nat_tests}
use Rattle.plans.specs.Meaning.{Meaning, Lawful, Fit, empty_meaning}
use Rattle.plans.specs.EmptyLaws.{empty_lawful}
use Rattle.plans.proofs.LawsAsFacts.{Laws, Names, Share, below, laws_of, lawful_of}
use Rattle.plans.specs.Join.{join_fits, join_reply, side_by_side, raised, lift}
use Rattle.plans.specs.declared.turns.Turns.{Turns}
use Rattle.plans.specs.declared.turns.Turns.TheVariants.{NoRoute, One, Two}

fit_more : (d e : ℕ) (t : Turns) → d ≤ e → Fit d t → Fit e t
fit_more d e NoRoute h f = tt
fit_more d e (One x) h f = omega (arith, f)
fit_more d e (Two x y) h f = (omega (arith, f.0), omega (arith, f.1), f.2)

names_raised : (d : ℕ) (t : Turns) (k : ℕ) → Names (raised d t) k → (j : ℕ) × ((k ≡ d + j) × Names t j)
names_raised d NoRoute k h = absurd h
names_raised d (One x) k h = (x, (h, refl))
names_raised d (Two x y) k (inl h) = (x, (h, inl refl))
names_raised d (Two x y) k (inr h) = (y, (h, inr refl))

fit_raised : (d e : ℕ) (t : Turns) → Fit e t → Fit (d + e + 1) (raised d t)
fit_raised d e NoRoute f = tt
fit_raised d e (One x) f = omega (arith, f)
fit_raised d e (Two x y) f = (omega (arith, f.0), omega (arith, f.1), λ s. f.2 (omega (arith, s)))

module _ (m o : Meaning) (p q : ℕ) where
  -- the reply of the join
  abbrev R : ℕ → ℕ → Turns
  R = join_reply m o p q

  low_low : (a b : ℕ) → a < m.stations → b < m.stations → R a b ≡ m.reply a b
  low_low a b h i = grind (arith, nat_tests)

  low_high : (a b : ℕ) → a < m.stations → m.stations ≤ b → R a b ≡ lift m o p q a b
  low_high a b h i = grind (arith, nat_tests)

  high_low : (a b : ℕ) → m.stations ≤ a → b < m.stations → R a b ≡ lift m o p q b a
  high_low a b h i = grind (arith, nat_tests)

  high_high : (a b : ℕ) → m.stations ≤ a → m.stations ≤ b → R a b ≡ raised m.dials (o.reply (a - m.stations) (b - m.stations))
  high_high a b h i = grind (arith, nat_tests)

  lift_names : (a b k : ℕ) → Names (lift m o p q a b) k → (k ≡ m.dials + o.dials) × (a ≡ p) × (b ≡ m.stations + q)
  lift_names a b k h = grind (arith, nat_tests)

  lift_fit : (a b : ℕ) → Fit (m.dials + o.dials + 1) (lift m o p q a b)
  lift_fit a b = grind (arith, nat_tests)

  -- where dial k of the pair a, b comes from
  data Seen (a b k : ℕ) : Type 0 where
    low : a < m.stations → b < m.stations → Names (m.reply a b) k → Seen a b k
    up : a ≡ p → b ≡ m.stations + q → k ≡ m.dials + o.dials → Seen a b k
    down : b ≡ p → a ≡ m.stations + q → k ≡ m.dials + o.dials → Seen a b k
    high : m.stations ≤ a → m.stations ≤ b → (j : ℕ) → k ≡ m.dials + j → Names (o.reply (a - m.stations) (b - m.stations)) j → Seen a b k

  seen : (a b k : ℕ) → Names (R a b) k → Seen a b k
  seen a b k h =
      ⊎_elim
      (λ x. ⊎_elim
      (λ y. low x y (subst (λ t. Names t k) (low_low a b x y) h))
      (λ y. let f = lift_names a b k (subst (λ t. Names t k) (low_high a b x y) h) in up f.1 f.2 f.0)
      (cases_lt b m.stations))
      (λ x. ⊎_elim
      (λ y. let f = lift_names b a k (subst (λ t. Names t k) (high_low a b x y) h) in down f.1 f.2 f.0)
      (λ y. let f = names_raised _ _ k (subst (λ t. Names t k) (high_high a b x y) h) in high x y f.0 f.1.0 f.1.1)
      (cases_lt b m.stations))
      (cases_lt a m.stations)

  module _ (lm : Laws m) (lo : Laws o) (hp : p < m.stations) (hq : q < o.stations) where
    lower : (a b k : ℕ) → Names (m.reply a b) k → k < m.dials
    lower a b k h = below _ _ k (lm.fit a b) h

    upper : (a b j : ℕ) → Names (o.reply a b) j → j < o.dials
    upper a b j h = below _ _ j (lo.fit a b) h

    back : (a b c e n : ℕ) → n ≤ a → n ≤ b → n ≤ c → n ≤ e → Share (a - n) (b - n) (c - n) (e - n) → Share a b c e
    back a b c e n ha hb hc he (inl (inl s)) = inl (inl (omega (arith, s)))
    back a b c e n ha hb hc he (inl (inr s)) = inl (inr (omega (arith, s)))
    back a b c e n ha hb hc he (inr (inl s)) = inr (inl (omega (arith, s)))
    back a b c e n ha hb hc he (inr (inr s)) = inr (inr (omega (arith, s)))

    shares : (a b c e k : ℕ) → Seen a b k → Seen c e k → Share a b c e
    shares a b c e k (low x y h) (low z w i) = lm.share a b c e k h i
    shares a b c e k (low x y h) (up z w i) = absurd (omega (arith, lower a b k h))
    shares a b c e k (low x y h) (down z w i) = absurd (omega (arith, lower a b k h))
    shares a b c e k (low x y h) (high z w j s i) = absurd (omega (arith, lower a b k h))
    shares a b c e k (up x y h) (low z w i) = absurd (omega (arith, lower c e k i))
    shares a b c e k (up x y h) (up z w i) = inl (inl (x ∙ sym z))
    shares a b c e k (up x y h) (down z w i) = inl (inr (x ∙ sym z))
    shares a b c e k (up x y h) (high z w j s i) = absurd (omega (arith, upper _ _ j i))
    shares a b c e k (down x y h) (low z w i) = absurd (omega (arith, lower c e k i))
    shares a b c e k (down x y h) (up z w i) = inr (inl (x ∙ sym z))
    shares a b c e k (down x y h) (down z w i) = inr (inr (x ∙ sym z))
    shares a b c e k (down x y h) (high z w j s i) = absurd (omega (arith, upper _ _ j i))
    shares a b c e k (high x y j s h) (low z w i) = absurd (omega (arith, lower c e k i))
    shares a b c e k (high x y j s h) (up z w i) = absurd (omega (arith, upper _ _ j h))
    shares a b c e k (high x y j s h) (down z w i) = absurd (omega (arith, upper _ _ j h))
    shares a b c e k (high x y j s h) (high z w l t i) =
        let same : l ≡ j = omega arith in
        back a b c e m.stations x y z w (lo.share _ _ _ _ j h (subst (Names _) same i))

    fits_all : (a b : ℕ) → Fit (m.dials + o.dials + 1) (R a b)
    fits_all a b =
        ⊎_elim
        (λ x. ⊎_elim
        (λ y. subst (Fit _) (sym (low_low a b x y)) (fit_more _ _ _ (omega arith) (lm.fit a b)))
        (λ y. subst (Fit _) (sym (low_high a b x y)) (lift_fit a b))
        (cases_lt b m.stations))
        (λ x. ⊎_elim
        (λ y. subst (Fit _) (sym (high_low a b x y)) (lift_fit b a))
        (λ y. subst (Fit _) (sym (high_high a b x y)) (fit_raised _ _ _ (lo.fit _ _)))
        (cases_lt b m.stations))
        (cases_lt a m.stations)

    mirror : (a b : ℕ) → R a b ≡ R b a
    mirror a b =
        ⊎_elim
        (λ x. ⊎_elim
        (λ y. low_low a b x y ∙ lm.mirrored a b ∙ sym (low_low b a y x))
        (λ y. low_high a b x y ∙ sym (high_low b a y x))
        (cases_lt b m.stations))
        (λ x. ⊎_elim
        (λ y. high_low a b x y ∙ sym (low_high b a y x))
        (λ y. high_high a b x y ∙ ap (raised _) (lo.mirrored _ _) ∙ sym (high_high b a y x))
        (cases_lt b m.stations))
        (cases_lt a m.stations)

    no_loop : (a : ℕ) → R a a ≡ NoRoute
    no_loop a = ⊎_elim (λ x. low_low a a x x ∙ lm.loopless a) (λ x. high_high a a x x ∙ ap (raised _) (lo.loopless _)) (cases_lt a m.stations)

    past : (a b : ℕ) → m.stations + o.stations ≤ a → R a b ≡ NoRoute
    past a b h =
        let x : m.stations ≤ a = omega arith in
        ⊎_elim (λ y. high_low a b x y ∙ grind (arith, nat_tests)) (λ y. high_high a b x y ∙ ap (raised _) (lo.inside _ _ (omega arith))) (cases_lt b m.stations)

  fitting : join_fits m o p q ≡ true → Laws m → Laws o → Laws (side_by_side m o p q)
  fitting e lm lo =
      let x = and_parts _ _ e in
      let n = and_parts _ _ x.0 in
      let s = and_parts _ _ x.1 in
      let hp = ltb-true p m.stations s.0 in
      let hq = ltb-true q o.stations s.1 in
      record {
        few = leb-true _ _ n.0;
        few_dials = leb-true _ _ n.1;
        inside = past lm lo hp hq;
        mirrored = mirror lm lo hp hq;
        loopless = no_loop lm lo hp hq;
        fit = fits_all lm lo hp hq;
        share = λ a b c e k h i. shares lm lo hp hq a b c e k (seen a b k h) (seen c e k i);
      }

  -- the join obeys the laws, whether it fits or not
  told_by : Lawful m → Lawful o → (f : Bool) → join_fits m o p q ≡ f → Lawful (cond f (side_by_side m o p q) empty_meaning)
  told_by lm lo true e = lawful_of _ (fitting e (laws_of m lm) (laws_of o lo))
  told_by lm lo false e = empty_lawful
