use Rattle.std.proofs.Common.{◌≡◌, ◌<◌, ◌∙◌, sym, subst, ap, length, get_or, Some, vec_items, arith}
use Rattle.std.proofs.ByRecursion.{All-get_or}
use Rattle.std.proofs.lemmas.List.{get_or_default}
use Rattle.routes.specs.declared.route.Route.{Route}
use Rattle.routes.specs.Order.{no_route}
use Rattle.regrouping.specs.Table.{best}
use Rattle.regrouping.specs.Steps.{Inside, leaves, triangles, star, heaviest}
use Rattle.regrouping.proofs.Taking.{best_some}
use Rattle.grouping.specs.declared.draft.Draft.{Draft}
use Rattle.grouping.specs.Draft.{drawn}
use Rattle.grouping.proofs.Drafts.{inside, after}
use Rattle.grouping.proofs.Turns.{heaviest_some}
use Rattle.grouping.proofs.draft.Draft.one_round.Goals as goal

place : (d : Draft) (i : _) → best (vec_items d.routes) ≡ Some i → i < length (vec_items d.routes)
place d i e = (best_some (vec_items d.routes) i e).remains.place

-- the route at that place is between two stations below 32
between : (d : Draft) (i : _) (r : Route) → best (vec_items d.routes) ≡ Some i → r ≡ get_or (vec_items d.routes) i r → Inside 32 r
between d i r e f =
    subst (Inside 32) (get_or_default (vec_items d.routes) i no_route r (place d i e) ∙ sym f) (All-get_or (Inside 32) (vec_items d.routes) i no_route (place d i e) (inside d))

pub index-r-requires : goal.index-r-requires
index-r-requires c = let t = c.take_triangles.new.self in omega (arith, place t c.in-Some.i (sym c.best_route.ensures ∙ c.in-Some.is), t.routes.ok.0)

pub star_at-requires : goal.star_at-requires
star_at-requires c =
    let h = between c.take_triangles.new.self c.in-Some.i c.index-r.result.now (sym c.best_route.ensures ∙ c.in-Some.is) c.index-r.ensures in
    omega (arith, h.0, h.1)

pub star_at-requires-in-Some : goal.star_at-requires-in-Some
star_at-requires-in-Some c = (between c.take_triangles.new.self c.in-Some.i c.index-r.result.now (sym c.best_route.ensures ∙ c.in-Some.is) c.index-r.ensures).1

pub returns-in-Some-clause-made : goal.returns-in-Some-clause-made
returns-in-Some-clause-made c =
    let t = c.take_triangles.new.self in
    let r = c.index-r.result.now in
    let e = sym c.best_route.ensures ∙ c.in-Some.is in
    let m = after (λ n. leaves n n) (λ n. triangles n n) c.args.self.now c.take_leaves.new.self t c.take_leaves.ensures.made c.take_triangles.ensures.made in
    let o = after (λ n. star r.low) (λ n. star r.high) t c.star_at.new.self c.star_at-in-Some.new.self c.star_at.ensures.made c.star_at-in-Some.ensures.made in
    let f = c.index-r.ensures ∙ get_or_default (vec_items t.routes) c.in-Some.i r no_route (place t c.in-Some.i e) in
    record { stations = o.stations ∙ m.stations; drawn = o.drawn ∙ (sym (heaviest_some (drawn t) c.in-Some.i r e f) ∙ ap heaviest m.drawn) }
