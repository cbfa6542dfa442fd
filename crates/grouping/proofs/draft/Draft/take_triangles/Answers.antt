use Rattle.std.proofs.Common.{◌≡◌, ℕ, Some, vec_items, ◌∙◌, sym}
use Rattle.routes.specs.declared.route.Group.TheVariants.{Triangle}
use Rattle.regrouping.specs.Table.{triangle}
use Rattle.regrouping.specs.Steps.{write, triangles}
use Rattle.grouping.specs.declared.draft.Draft.{Draft}
use Rattle.grouping.specs.Draft.{drawn, TakesLast}
use Rattle.grouping.proofs.Drafts.{ready, takes_last, fewer, goes_on}
use Rattle.grouping.proofs.Turns.{triangle_new, triangles_turn}
use Rattle.grouping.proofs.draft.Draft.take_triangles.Goals as goal

triangle_last : (d : Draft) (a b c : ℕ) → triangle (vec_items d.routes) d.stations ≡ Some (a, b, c) → TakesLast (Triangle a b c) d
triangle_last d a b c e = takes_last d (Triangle a b c) (triangle_new d.stations (a, b, c) (drawn d) e)

pub write_group-requires : goal.write_group-requires
write_group-requires c = triangle_last c.loop-a.self c.in-Some.a c.in-Some.b c.in-Some.c (sym c.first_triangle.ensures ∙ c.in-Some.is)

pub loop-a-smaller : goal.loop-a-smaller
loop-a-smaller c =
    fewer c.loop-a.self c.write_group.new.self (λ n. write (Triangle c.in-Some.a c.in-Some.b c.in-Some.c))
    (triangle_last c.loop-a.self c.in-Some.a c.in-Some.b c.in-Some.c (sym c.first_triangle.ensures ∙ c.in-Some.is)) c.write_group.ensures.made

pub loop-a-preserved : goal.loop-a-preserved
loop-a-preserved c =
    let d = c.loop-a.self in
    goes_on (λ n. triangles n n) (λ n. write (Triangle c.in-Some.a c.in-Some.b c.in-Some.c)) c.args.self.now d c.write_group.new.self c.loop-a.invariant c.write_group.ensures.made c.write_group.ensures.capacity
    (triangles_turn d.stations (c.in-Some.a, c.in-Some.b, c.in-Some.c) (drawn d) (ready d) (sym c.first_triangle.ensures ∙ c.in-Some.is))
