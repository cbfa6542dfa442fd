use Rattle.std.proofs.Common.{◌<◌, length, sym, ◌∙◌, arith}
use Rattle.std.specs.List.{flat_map}
use Rattle.std.proofs.lemmas.List.{at_drop_all}
use Rattle.text.specs.Vector.{vector_laws}
use Rattle.text.proofs.Sinks.{lacks_all, lacks_room, lacks_next, lacks_as, lacks_none}
use Rattle.floortext.specs.Floor.{member_text}
use Rattle.floortext.proofs.Floors.{members_in, members_out}
use Rattle.floortext.proofs.floor.put_members.Goals as goal
use Rattle.floortext.proofs.floor.put_members.Goals.{then-is_in, else-is_in}

pub loop-route-init : goal.loop-route-init
loop-route-init c = λ room. lacks_all vector_laws room

pub loop-route-preserved : goal.loop-route-preserved
loop-route-preserved c =
    let at : c.loop-route.route-index < length c.args.routes.now = omega arith in
    let test = sym c.is_in.ensures in
    λ room. elim c.if-is_in.branch [
      | then-is_in w ↦
          let lacks = lacks_as (c.loop-route.invariant room) (members_in c.args.k c.args.routes.now c.loop-route.route-index at (test ∙ w.if-is_in.true)) in
          rw w.out-is (lacks_next vector_laws _ _ lacks (w.put_route.ensures (lacks_room vector_laws _ _ lacks)))
      | else-is_in w ↦ rw w.out-is (lacks_as (c.loop-route.invariant room) (members_out c.args.k c.args.routes.now c.loop-route.route-index at (test ∙ w.if-is_in.false)))
    ]

pub returns : goal.returns
returns c =
    λ room. lacks_none vector_laws (c.loop-route.invariant room) (at_drop_all (flat_map (member_text c.args.k)) c.args.routes.now c.loop-route.route-index (omega arith))
