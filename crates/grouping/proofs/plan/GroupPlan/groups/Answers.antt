use Rattle.std.proofs.Common.{vec_items, rules}
use Rattle.routes.proofs.Decompositions.{decomposition_from}
use Rattle.grouping.proofs.plan.GroupPlan.groups.Goals as goal

pub returns : goal.returns
returns c =
    let p = c.args.self.now in
    let d = decomposition_from (vec_items p.draft.routes) (vec_items p.draft.groups) p.decomposed in
    search rules
