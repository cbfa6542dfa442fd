-- No rule stops while it still applies: the turns of each are enough.
use Rattle.std.proofs.Common.{◌≡◌, ℕ, zero, suc, ◌<◌, ◌≤◌, true, List, length, Some, None, arith}
use Rattle.routes.specs.declared.route.Route.{Route}
use Rattle.routes.specs.declared.route.Group.{Group}
use Rattle.routes.specs.declared.route.Group.TheVariants.{Star, Triangle}
use Rattle.regrouping.specs.Table.{degree, leaf, triangle}
use Rattle.routes.specs.Order.{ends, ordered}
use Rattle.regrouping.specs.Steps.{Work, write, mate, leaves, triangles, rounds, opened, start, regrouped, live, Ready}
use Rattle.regrouping.specs.Laws.{RulesFinish}
use Rattle.regrouping.proofs.Live.{degree_mark_le, degree_star, loose_spent, live_less, live_small}
use Rattle.regrouping.proofs.Taking.{none_from, leaf_some}
use Rattle.regrouping.proofs.Keeps.{answer_both, mate_live, triangle_found, degree_inside}
use Rattle.regrouping.proofs.Written.{New, ready_new, ready_leaves, ready_rounds}
use Rattle.regrouping.proofs.Done.{closed_open, live_closed, rounds_done}
use Rattle.regrouping.proofs.Regroups.{start_ready}

-- a written group has a station that lost its last routes
spent : (n : ℕ) (k : Group) (w : Work) → Ready n w → New k w.table → (s : ℕ) × (degree (write k w).table s ≡ 0) × (0 < degree w.table s)
spent n (Star c) w r e = (c, degree_star c (length w.groups) w.table, e)
spent n (Triangle a b c) w r e = loose_spent w.table a b c (length w.groups) e.0 e.1 e.2

pub write_less : (n : ℕ) (k : Group) (w : Work) → Ready n w → New k w.table → live (write k w).table n < live w.table n
write_less n k w r e =
    let q = spent n k w r e in
    live_less w.table (write k w).table n q.0 (λ s. degree_mark_le k (length w.groups) s w.table) q.1 q.2 (degree_inside n q.0 w r q.2)

leaf_new : (n s : ℕ) (w : Work) → leaf w.table n ≡ Some s → New (Star (mate w.table s)) w.table
leaf_new n s w e = mate_live w.table s (omega (arith, (leaf_some w.table n s e).lone))

leaves_finish : (k n : ℕ) (w : Work) → Ready n w → live w.table n ≤ k → leaf (leaves k n w).table n ≡ None
leaves_finish zero n w r h = none_from (leaf w.table n) (λ s e. let q = write_less n (Star (mate w.table s)) w r (leaf_new n s w e) in omega arith)
leaves_finish (suc k) n w r h =
    answer_both (leaf w.table n) w _ (λ v. leaf v.table n ≡ None) (λ e. e)
    (λ s e. let q = write_less n (Star (mate w.table s)) w r (leaf_new n s w e) in leaves_finish k n _ (ready_new n (Star (mate w.table s)) w r (leaf_new n s w e)) (omega arith))

triangles_finish : (k n : ℕ) (w : Work) → Ready n w → live w.table n ≤ k → triangle (triangles k n w).table n ≡ None
triangles_finish zero n w r h = none_from (triangle w.table n) (λ x e. let q = write_less n (Triangle x.0 x.1 x.2) w r (triangle_found w.table n x e) in omega arith)
triangles_finish (suc k) n w r h =
    answer_both (triangle w.table n) w _ (λ v. triangle v.table n ≡ None) (λ e. e)
    (λ x e. let q = write_less n (Triangle x.0 x.1 x.2) w r (triangle_found w.table n x e) in triangles_finish k n _ (ready_new n (Triangle x.0 x.1 x.2) w r (triangle_found w.table n x e)) (omega arith))

pub rules_finish : (n : ℕ) (t : List Route) → n ≤ 32 → length t ≤ 496 → ordered n (ends t) ≡ true → RulesFinish n t
rules_finish n t few short o =
    let s = start_ready n t few short o in
    let r : (k : ℕ) → Ready n (rounds k n (start t)) = λ k. ready_rounds k n (start t) s in
    record {
      leaves_none = λ k. leaves_finish n n _ (r k) (live_small (rounds k n (start t)).table n);
      triangles_none = λ k. let v = leaves n n (rounds k n (start t)) in triangles_finish n n v (ready_leaves n n _ (r k)) (live_small v.table n);
      remain_none = closed_open (regrouped n t).table (live_closed n (regrouped n t) (r n) (rounds_done n n (start t) s (live_small (opened t) n)));
    }
