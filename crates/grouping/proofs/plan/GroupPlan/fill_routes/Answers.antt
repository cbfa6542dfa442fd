use Rattle.std.proofs.Common.{sym, ◌∙◌}
use Rattle.grouping.proofs.Accepts.{ready_bare}
use Rattle.grouping.proofs.Drafts.{regroups_draft}
use Rattle.grouping.proofs.plan.GroupPlan.fill_routes.Goals as goal

pub put-requires : goal.put-requires
put-requires c = ready_bare c.args.stations c.args.routes.now (sym c.is_acceptable.ensures ∙ c.if-not-is_acceptable.false)

pub invariant_of-self : goal.invariant_of-self
invariant_of-self c = record { decomposed = (regroups_draft c.put.new.self c.regroup.new.self c.regroup.ensures.made).split }
