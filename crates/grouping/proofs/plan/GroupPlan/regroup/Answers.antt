use Rattle.std.proofs.Common.{vec_items, ap, ◌∙◌}
use Rattle.routes.proofs.Decompositions.{decomposition_from}
use Rattle.regrouping.proofs.Finish.{rules_finish}
use Rattle.grouping.specs.Plan.{given}
use Rattle.grouping.proofs.Drafts.{regroups_draft}
use Rattle.grouping.proofs.plan.GroupPlan.regroup.Goals as goal

pub invariant_of-self : goal.invariant_of-self
invariant_of-self c = record { decomposed = (regroups_draft c.args.self.now.draft c.regroup.new.self c.regroup.ensures.made).split }

pub returns : goal.returns
returns c =
    let d = c.args.self.now.draft in
    let e = c.regroup.new.self in
    let m = c.regroup.ensures.made in
    let q = regroups_draft d e m in
    record {
      built = ap (λ n. given n (vec_items e.routes) (vec_items e.groups)) m.stations ∙ ap (λ w. given d.stations w.table w.groups) m.drawn;
      stations = m.stations;
      same = q.same;
      decomposition = decomposition_from _ _ q.split;
      few = q.few;
      finish = rules_finish d.stations (vec_items d.routes) d.few.0 d.few.1 d.ordered;
    }
