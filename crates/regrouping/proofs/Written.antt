-- What every written group keeps, the run keeps.
use Rattle.std.proofs.Common.{◌≡◌, ℕ, zero, suc, ◌<◌, true, eqb, List, arith}
use Rattle.std.proofs.lemmas.Bool.{cond_both, eqb-false}
use Rattle.routes.specs.declared.route.Route.{Route}
use Rattle.routes.specs.declared.route.Group.{Group}
use Rattle.routes.specs.declared.route.Group.TheVariants.{Star, Triangle}
use Rattle.regrouping.specs.Table.{degree, loose, leaf, triangle, best}
use Rattle.regrouping.specs.Steps.{Work, write, mate, leaves, triangles, star, heaviest, round, rounds, some_open, Ready}
use Rattle.regrouping.proofs.Taking.{leaf_some}
use Rattle.regrouping.proofs.Keeps.{answer_both, mate_live, triangle_found, ready_star, ready_triangle}

-- what holds of a group as it is written
abbrev pub New : Group → List Route → Type 0
New (Star c) t = 0 < degree t c
New (Triangle a b c) t = (a < b) × (b < c) × (loose t a b c ≡ true)

pub ready_new : (n : ℕ) (k : Group) (w : Work) → Ready n w → New k w.table → Ready n (write k w)
ready_new n (Star c) w h e = ready_star n c w h e
ready_new n (Triangle a b c) w h e = ready_triangle n (a, b, c) w h e

module _ (n : ℕ) (P : Work → Type 0) (step : (k : Group) (w : Work) → Ready n w → New k w.table → P w → P (write k w)) where
  abbrev Both : Work → Type 0
  Both w = Ready n w × P w

  both_step : (k : Group) (w : Work) → New k w.table → Both w → Both (write k w)
  both_step k w e h = (ready_new n k w h.0 e, step k w h.0 e h.1)

  pub keeps_leaves : (k : ℕ) (w : Work) → Both w → Both (leaves k n w)
  keeps_leaves zero w h = h
  keeps_leaves (suc k) w h =
      answer_both (leaf w.table n) w _ Both (λ _. h)
      (λ s e. keeps_leaves k _ (both_step (Star (mate w.table s)) w (mate_live w.table s (omega (arith, (leaf_some w.table n s e).lone))) h))

  pub keeps_triangles : (k : ℕ) (w : Work) → Both w → Both (triangles k n w)
  keeps_triangles zero w h = h
  keeps_triangles (suc k) w h =
      answer_both (triangle w.table n) w _ Both (λ _. h)
      (λ x e. keeps_triangles k _ (both_step (Triangle x.0 x.1 x.2) w (triangle_found w.table n x e) h))

  pub keeps_star : (c : ℕ) (w : Work) → Both w → Both (star c w)
  keeps_star c w h =
      cond_both (eqb (degree w.table c) 0) w (write (Star c) w) Both (λ _. h)
      (λ e. both_step (Star c) w (let q = eqb-false (degree w.table c) 0 e in omega arith) h)

  pub keeps_heaviest : (w : Work) → Both w → Both (heaviest w)
  keeps_heaviest w h = answer_both (best w.table) w _ Both (λ _. h) (λ i e. keeps_star _ _ (keeps_star _ w h))

  pub keeps_round : (w : Work) → Both w → Both (round n w)
  keeps_round w h = keeps_heaviest _ (keeps_triangles n _ (keeps_leaves n w h))

  pub keeps_rounds : (k : ℕ) (w : Work) → Both w → Both (rounds k n w)
  keeps_rounds zero w h = h
  keeps_rounds (suc k) w h = cond_both (some_open w.table) _ w Both (λ _. keeps_rounds k _ (keeps_round w h)) (λ _. h)

-- ---- each step keeps `Ready`
abbrev NoMore : Work → Type 0
NoMore w = Unit {0}

no_more : (n : ℕ) (k : Group) (w : Work) → Ready n w → New k w.table → NoMore w → NoMore (write k w)
no_more n k w r e h = tt

pub ready_leaves : (k n : ℕ) (w : Work) → Ready n w → Ready n (leaves k n w)
ready_leaves k n w r = (keeps_leaves n NoMore (no_more n) k w (r, tt)).0

pub ready_some_star : (n c : ℕ) (w : Work) → Ready n w → Ready n (star c w)
ready_some_star n c w r = (keeps_star n NoMore (no_more n) c w (r, tt)).0

pub ready_round : (n : ℕ) (w : Work) → Ready n w → Ready n (round n w)
ready_round n w r = (keeps_round n NoMore (no_more n) w (r, tt)).0

pub ready_rounds : (k n : ℕ) (w : Work) → Ready n w → Ready n (rounds k n w)
ready_rounds k n w r = (keeps_rounds n NoMore (no_more n) k w (r, tt)).0
