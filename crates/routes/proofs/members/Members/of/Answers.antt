use Rattle.std.proofs.Common.{Some, ap, ◌∙◌, arith}
use Rattle.routes.proofs.Notes.{notes_none, notes_over, notes_in}
use Rattle.routes.proofs.members.Members.of.Goals as goal
use Rattle.routes.proofs.members.Members.of.Goals.{in-Some, in_default}

pub loop-route-init : goal.loop-route-init
loop-route-init c = notes_none c.args.routes.now

pub loop-route-preserved : goal.loop-route-preserved
loop-route-preserved c =
    let t = c.args.routes.now in
    let i = c.loop-route.route-index in
    let p = c.loop-route.present in
    let more = c.loop-route-test.true in
    elim c.match-route.branch [
      | in-Some w ↦ notes_in p _ t i _ more (omega arith) (w.in-Some.is ∙ ap Some (omega arith)) w.present-is c.loop-route.invariant
      | in_default w ↦ notes_over p _ t i more w.in_default.is w.present-is c.loop-route.invariant
    ]
