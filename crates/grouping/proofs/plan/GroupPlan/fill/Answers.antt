use Rattle.std.proofs.Common.{sym, ◌∙◌, arith}
use Rattle.grouping.proofs.Accepts.{ready_grouped}
use Rattle.grouping.proofs.plan.GroupPlan.fill.Goals as goal

pub put-requires : goal.put-requires
put-requires c =
    ready_grouped c.args.stations c.args.routes.now c.args.groups.now (sym c.is_acceptable.ensures ∙ c.if-not-is_acceptable.false) (omega arith)
    (sym c.is_decomposition.ensures.test ∙ c.if-not-is_decomposition.false)
