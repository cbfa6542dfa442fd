use Rattle.std.proofs.Common.{eqb, vec_items, sym, ◌∙◌, rules}
use Rattle.regrouping.specs.Table.{degree, lowest, second, third}
use Rattle.routes.proofs.Firsts.{first_more, first_skip, first_hit}
use Rattle.regrouping.proofs.Tables.{hit_two}
use Rattle.std.proofs.lemmas.Bool.{cond-true, cond-false, ne_eqb, true≢false}
use Rattle.std.proofs.lemmas.List.Elements.{contains_decides}
use Rattle.regrouping.proofs.Counts.{second_heavy, second_apart, triangle_none}
use Rattle.grouping.proofs.draft.Draft.first_triangle.Goals as goal
use Rattle.std.proofs.lemmas.Bool.Decides.{Decides-eqb}

pub loop-b-init : goal.loop-b-init
loop-b-init c =
    let e = first_more (lowest (vec_items c.args.self.now.routes) c.args.self.now.stations) c.args.self.now.stations c.search.a c.search-test.true in
    (c.search.invariant.0, cc)

pub loop-c-init : goal.loop-c-init
loop-c-init c =
    let e = first_more (second (vec_items c.args.self.now.routes) c.args.self.now.stations c.search.a) c.args.self.now.stations c.loop-b.b c.loop-b-test.true in
    (c.loop-b.invariant.0, cc)

pub loop-c-preserved : goal.loop-c-preserved
loop-c-preserved c =
    let e = first_skip (third (vec_items c.args.self.now.routes) c.search.a c.loop-b.b) c.args.self.now.stations c.loop-c.c c.loop-c-test.true (cond-false _ _ _ (sym c.is_loose.ensures ∙ c.if-is_loose.false)) in
    (c.loop-c.invariant.0, cc)

pub returns-then-is_loose : goal.returns-then-is_loose
returns-then-is_loose c =
    sym (c.loop-c.invariant.1 ∙ hit_two _ _ _ _ (first_hit (third (vec_items c.args.self.now.routes) c.search.a c.loop-b.b) c.args.self.now.stations c.loop-c.c _ c.loop-c-test.true (cond-true _ _ _ (sym c.is_loose.ensures ∙ c.if-is_loose.true))))

pub loop-b-preserved-then-degree-ne2-2 : goal.loop-b-preserved-then-degree-ne2-2
loop-b-preserved-then-degree-ne2-2 c =
    let t = vec_items c.args.self.now.routes in
    let a = c.search.a in
    let b = c.loop-b.b in
    let x = ne_eqb (degree t a) 2 (λ e. c.if-degree-ne2.true (c.degree.ensures ∙ e)) in
    let y = ne_eqb (degree t b) 2 (λ e. c.if-degree-ne2-2.true (c.degree-then-degree-ne2.ensures ∙ e)) in
    let e = first_skip (second t c.args.self.now.stations a) c.args.self.now.stations b c.loop-b-test.true (second_heavy t c.args.self.now.stations a b x y) in
    (c.loop-b.invariant.0, cc)

pub loop-b-preserved-then-not-remains : goal.loop-b-preserved-then-not-remains
loop-b-preserved-then-not-remains c =
    let t = vec_items c.args.self.now.routes in
    let a = c.search.a in
    let b = c.loop-b.b in
    let e = first_skip (second t c.args.self.now.stations a) c.args.self.now.stations b c.loop-b-test.true (second_apart t c.args.self.now.stations a b (sym c.remains.ensures ∙ c.if-not-remains.true)) in
    (c.loop-b.invariant.0, cc)

pub returns-then-not-contains : goal.returns-then-not-contains
returns-then-not-contains c =
    let d = contains_decides eqb Decides-eqb c.args.self.now.degrees.counts 2 c.contains.result c.contains.ensures.cases in
    sym (triangle_none c.args.self.now.degrees.counts (vec_items c.args.self.now.routes) c.args.self.now.stations c.args.self.now.few.0 (search rules) c.args.self.now.counted (λ h. true≢false (sym (d.1 h) ∙ c.if-not-contains.true)))
