-- A rule's turns over n stations are enough: more would change nothing. So one turn leaves the same still to come.
use Rattle.std.proofs.Common.{◌≡◌, ℕ, zero, suc, ◌<◌, ◌≤◌, Bool, true, false, cond, Some, None, Option, get_or, sym, refl, ap, ◌∙◌, ⊎_elim, arith}
use Rattle.std.proofs.lemmas.Bool.{both_ways, cases_lt}
use Rattle.routes.specs.declared.route.Route.{Route}
use Rattle.routes.specs.declared.route.Group.{Group}
use Rattle.routes.specs.declared.route.Group.TheVariants.{Star, Triangle}
use Rattle.routes.specs.Order.{no_route}
use Rattle.regrouping.specs.Table.{leaf, triangle, best, answer}
use Rattle.regrouping.specs.Steps.{Work, write, mate, leaves, triangles, star, both, heaviest, round, rounds, some_open, live, Ready}
use Rattle.regrouping.proofs.Live.{live_small}
use Rattle.regrouping.proofs.Taking.{leaf_some}
use Rattle.regrouping.proofs.Keeps.{answer_both, mate_live, triangle_found}
use Rattle.regrouping.proofs.Written.{New, ready_new, ready_round}
use Rattle.regrouping.proofs.Finish.{write_less}
use Rattle.regrouping.proofs.Done.{closed_open, live_closed, round_less}

answer_same : {X Y : Type 0} (o : Option X) (y : Y) (f g : X → Y) → ((x : X) → o ≡ Some x → f x ≡ g x) → answer o y f ≡ answer o y g
answer_same None y f g h = refl
answer_same (Some x) y f g h = h x refl

-- a step of n stations' work takes the last routes of one of them
abbrev Less : ℕ → Work → Work → Type 0
Less n w v = Ready n v × (live v.table n < live w.table n)

-- a run of at most k turns, each of which takes what is found
module _ {X : Type 0} (n : ℕ) (run : ℕ → Work → Work) (find : Work → Option X) (next : X → Work → Work)
    (none : (w : Work) → run 0 w ≡ w)
    (more : (k : ℕ) (w : Work) → run (suc k) w ≡ answer (find w) w (λ x. run k (next x w)))
    (less : (w : Work) (x : X) → Ready n w → find w ≡ Some x → Less n w (next x w)) where
  same : (k : ℕ) (w : Work) → Ready n w → live w.table n ≤ k → run (suc k) w ≡ run k w
  same zero w r h = more 0 w ∙ (answer_both (find w) w _ (λ v. v ≡ w) (λ _. refl) (λ x e. let q = less w x r e in absurd (omega (arith, q.1))) ∙ sym (none w))
  same (suc k) w r h = more (suc k) w ∙ (answer_same (find w) w _ _ (λ x e. let q = less w x r e in same k (next x w) q.0 (omega (arith, q.1))) ∙ sym (more k w))

  turn : (k : ℕ) (w : Work) (x : X) → Ready n w → live w.table n ≤ k → find w ≡ Some x → run k w ≡ run k (next x w)
  turn zero w x r h e = let q = less w x r e in absurd (omega (arith, q.1))
  turn (suc k) w x r h e = let q = less w x r e in more k w ∙ (ap (λ o. answer o w (λ y. run k (next y w))) e ∙ sym (same k (next x w) q.0 (omega (arith, q.1))))

new_less : (n : ℕ) (k : Group) (w : Work) → Ready n w → New k w.table → Less n w (write k w)
new_less n k w r e = (ready_new n k w r e, write_less n k w r e)

-- ---- the leaf rule
leaf_new : (n s : ℕ) (w : Work) → leaf w.table n ≡ Some s → New (Star (mate w.table s)) w.table
leaf_new n s w e = mate_live w.table s (omega (arith, (leaf_some w.table n s e).lone))

pub leaves_turn : (n s : ℕ) (w : Work) → Ready n w → leaf w.table n ≡ Some s → leaves n n w ≡ leaves n n (write (Star (mate w.table s)) w)
leaves_turn n s w r e =
    turn n (λ k v. leaves k n v) (λ v. leaf v.table n) (λ x v. write (Star (mate v.table x)) v) (λ _. refl) (λ _ _. refl)
    (λ v x q f. new_less n (Star (mate v.table x)) v q (leaf_new n x v f)) n w s r (live_small w.table n) e

-- ---- the loose triangle rule
pub triangle_new : (n : ℕ) (x : ℕ × ℕ × ℕ) (w : Work) → triangle w.table n ≡ Some x → New (Triangle x.0 x.1 x.2) w.table
triangle_new n x w e = triangle_found w.table n x e

pub triangles_turn : (n : ℕ) (x : ℕ × ℕ × ℕ) (w : Work) → Ready n w → triangle w.table n ≡ Some x → triangles n n w ≡ triangles n n (write (Triangle x.0 x.1 x.2) w)
triangles_turn n x w r e =
    turn n (λ k v. triangles k n v) (λ v. triangle v.table n) (λ t v. write (Triangle t.0 t.1 t.2) v) (λ _. refl) (λ _ _. refl)
    (λ v t q f. new_less n (Triangle t.0 t.1 t.2) v q (triangle_new n t v f)) n w x r (live_small w.table n) e

-- ---- the rounds
-- a round is found where a route remains
abbrev due : Bool → Option Bool
due b = cond b (Some true) None

due_answer : (b : Bool) (w : Work) (f : Bool → Work) → cond b (f true) w ≡ answer (due b) w f
due_answer true w f = refl
due_answer false w f = refl

due_some : (b x : Bool) → due b ≡ Some x → b ≡ true
due_some true x e = refl
due_some false x e = cc

pub open_live : (n : ℕ) (w : Work) → Ready n w → some_open w.table ≡ true → 0 < live w.table n
open_live n w r e =
    ⊎_elim (λ h. h) (λ h. absurd (both_ways _ (closed_open w.table (live_closed n w r (omega arith))) e)) (cases_lt 0 (live w.table n))

pub round_takes : (n : ℕ) (w : Work) → Ready n w → some_open w.table ≡ true → live (round n w).table n < live w.table n
round_takes n w r e = round_less n w r (open_live n w r e)

pub rounds_turn : (n : ℕ) (w : Work) → Ready n w → some_open w.table ≡ true → rounds n n w ≡ rounds n n (round n w)
rounds_turn n w r e =
    turn n (λ k v. rounds k n v) (λ v. due (some_open v.table)) (λ _ v. round n v) (λ _. refl) (λ k v. due_answer (some_open v.table) v (λ _. rounds k n (round n v)))
    (λ v x q f. let o = due_some (some_open v.table) x f in (ready_round n v q, round_takes n v q o)) n w true r (live_small w.table n) (ap due e)

-- ---- the heaviest route's two stars
pub heaviest_some : (w : Work) (i : ℕ) (r : Route) → best w.table ≡ Some i → r ≡ get_or w.table i no_route → heaviest w ≡ star r.high (star r.low w)
heaviest_some w i r e f = ap (λ o. answer o w (λ j. both (get_or w.table j no_route) w)) e ∙ ap (λ x. star x.high (star x.low w)) (sym f)
