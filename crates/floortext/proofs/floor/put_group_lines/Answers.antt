use Rattle.std.proofs.Common.{ℕ, get_or, ap, arith}
use Rattle.std.proofs.lemmas.List.{at_drop_all}
use Rattle.routes.specs.declared.route.Group.TheVariants.{Star}
use Rattle.text.specs.Vector.{vector_laws}
use Rattle.text.proofs.Sinks.{lacks_all, lacks_room, lacks_next, lacks_as, lacks_none, takes_as}
use Rattle.floortext.specs.Floor.{group_line, group_lines}
use Rattle.floortext.proofs.Floors.{group_lines_more}
use Rattle.floortext.proofs.floor.put_group_lines.Goals as goal

pub loop-k-init : goal.loop-k-init
loop-k-init c = λ room. lacks_all vector_laws room

pub loop-k-preserved : goal.loop-k-preserved
loop-k-preserved c =
    λ room. let lacks = lacks_as (c.loop-k.invariant room) (group_lines_more c.args.routes.now c.args.groups.now c.loop-k.k (omega arith)) in
    let line = takes_as vector_laws (ap (λ (n : ℕ). group_line c.args.routes.now n (get_or c.args.groups.now c.loop-k.k (Star 0))) (omega arith)) c.put_group_line.ensures in
    lacks_next vector_laws _ _ lacks (line (lacks_room vector_laws _ _ lacks))

pub returns : goal.returns
returns c =
    λ room. lacks_none vector_laws (c.loop-k.invariant room) (at_drop_all (group_lines c.args.routes.now c.loop-k.k) c.args.groups.now c.loop-k.k (omega arith))
