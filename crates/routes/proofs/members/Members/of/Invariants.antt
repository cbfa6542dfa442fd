use Rattle.routes.proofs.Notes.{NotesBefore}
use Rattle.routes.proofs.members.Members.of.Given as goal

abbrev pub invariant-loop-route : goal.invariant-loop-route
invariant-loop-route l = NotesBefore l.present l.routes l.route-index
