use Rattle.std.proofs.Common.{◌≡◌, ℕ, ◌+◌, ◌≤◌, true, List, drop, length, vec_items, ap, ◌∙◌, sym, subst, arith, rules}
use Rattle.std.specs.List.{AllByRecursion}
use Rattle.std.proofs.lemmas.List.{take_at, length-map}
use Rattle.routes.specs.declared.route.Route.{Route}
use Rattle.routes.specs.declared.route.Group.{Group}
use Rattle.routes.specs.Order.{ends, ordered}
use Rattle.regrouping.specs.Table.{Counted}
use Rattle.regrouping.specs.Steps.{Inside, marked, mark, live}
use Rattle.grouping.proofs.Drafts.{inside, written}
use Rattle.grouping.proofs.draft.Draft.write_group.Goals as goal

pub take_routes-requires-clause-inside : goal.take_routes-requires-clause-inside
take_routes-requires-clause-inside c = subst (AllByRecursion (Inside 32)) (sym c.deref_mut.ensures.value) (inside c.args.self.now)

-- where there are places beside these groups and routes, there are beside any that are the same
places_of : {gs hs : List Group} {t u : List Route} → gs ≡ hs → t ≡ u → (n : ℕ) → length hs + live u n ≤ 32 → length gs + live t n ≤ 32
places_of {gs = gs} {u = u} e f n h = subst (λ y. length gs + live y n ≤ 32) (sym f) (subst (λ y. length y + live u n ≤ 32) (sym e) h)

pub invariant_of-self : goal.invariant_of-self
invariant_of-self c =
    let d = c.args.self.now in
    let k = c.args.group in
    let n = d.stations in
    let ws = c.take_routes.new.routes in
    let g : c.len-number.result ≡ length (vec_items d.groups) = omega arith in
    let m : ws ≡ mark k (length (vec_items d.groups)) (vec_items d.routes) = c.take_routes.ensures.marked ∙ (ap (λ x. mark k x c.deref_mut.result.now) g ∙ ap (mark k (length (vec_items d.groups))) c.deref_mut.ensures.value) in
    let back = take_at ws (drop (length ws) (vec_items d.routes)) d.routes.len (ap length m ∙ length-map (vec_items d.routes) (marked k (length (vec_items d.groups))) ∙ sym d.routes.ok.0) in
    let w = back ∙ m in
    let r = written d k c.requires in
    record {
      few = (d.few.0, subst (λ x. length x ≤ 496) (sym w) r.short);
      room = (d.room.0, omega arith);
      ordered = subst (λ x. ordered n (ends x) ≡ true) (sym w) r.ordered;
      places = places_of (search rules) w n r.room;
      counted = subst (Counted c.take_routes.new.degrees.counts) (sym back) c.take_routes.ensures.counted;
    }
