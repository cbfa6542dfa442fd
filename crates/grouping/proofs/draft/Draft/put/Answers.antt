use Rattle.regrouping.specs.Steps.{work}
use Rattle.regrouping.proofs.Keeps.{ready_low}
use Rattle.grouping.proofs.draft.Draft.put.Goals as goal

pub count-self-requires-clause-inside : goal.count-self-requires-clause-inside
count-self-requires-clause-inside c = ready_low c.args.stations (work c.args.routes.now c.args.groups.now) c.requires
