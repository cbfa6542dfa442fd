use Rattle.std.proofs.Common.{◌≡◌, ◌+◌, ◌≤◌, true, List, ◌++◌, length, take, drop, vec_items, ap, ◌∙◌, sym, subst, arith}
use Rattle.std.specs.List.{AllByRecursion}
use Rattle.std.proofs.lemmas.List.{take_at, length-map}
use Rattle.routes.specs.declared.route.Route.{Route}
use Rattle.routes.specs.Order.{ends, ordered}
use Rattle.regrouping.specs.Table.{Counted}
use Rattle.regrouping.specs.Steps.{Inside, Ready, ungrouped, opened, start, live}
use Rattle.regrouping.proofs.Keeps.{ready_low}
use Rattle.regrouping.proofs.Regroups.{start_ready}
use Rattle.grouping.specs.declared.draft.Draft.{Draft}
use Rattle.grouping.proofs.draft.Draft.reopen.Goals as goal

starts : (d : Draft) → Ready d.stations (start (vec_items d.routes))
starts d = start_ready d.stations (vec_items d.routes) d.few.0 d.few.1 d.ordered

-- the routes, opened, came back
opens : (d : Draft) (u ws : List Route) → u ≡ vec_items d.routes → ws ≡ opened u → take d.routes.len (ws ++ drop (length ws) (vec_items d.routes)) ≡ opened (vec_items d.routes)
opens d u ws e m =
    let o = m ∙ ap opened e in
    take_at ws (drop (length ws) (vec_items d.routes)) d.routes.len (ap length o ∙ (length-map (vec_items d.routes) ungrouped ∙ sym d.routes.ok.0)) ∙ o

pub count-self-requires-clause-inside : goal.count-self-requires-clause-inside
count-self-requires-clause-inside c =
    let d = c.args.self.now in
    subst (AllByRecursion (Inside 32)) (sym (c.deref.ensures.value ∙ opens d _ _ c.deref_mut.ensures.value c.reopen_routes.ensures)) (ready_low d.stations (start (vec_items d.routes)) (starts d))

pub invariant_of-self : goal.invariant_of-self
invariant_of-self c =
    let d = c.args.self.now in
    let ws = c.reopen_routes.new.routes in
    let x = take d.routes.len (ws ++ drop (length ws) (vec_items d.routes)) in
    let w : x ≡ opened (vec_items d.routes) = opens d _ ws c.deref_mut.ensures.value c.reopen_routes.ensures in
    let r = starts d in
    record {
      few = (d.few.0, subst (λ y. length y ≤ 496) (sym w) r.short);
      room = (d.room.0, omega (arith, c.clear.ensures.capacity, d.room.1));
      ordered = subst (λ y. ordered d.stations (ends y) ≡ true) (sym w) r.ordered;
      places = subst (λ y. length y + live x d.stations ≤ 32) (sym c.clear.ensures.items) (subst (λ y. 0 + live y d.stations ≤ 32) (sym w) r.room);
      counted = subst (Counted c.count-self.result.counts) c.deref.ensures.value c.count-self.ensures;
    }
