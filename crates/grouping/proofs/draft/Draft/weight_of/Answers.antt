use Rattle.std.proofs.Common.{vec_items, arith}
use Rattle.regrouping.proofs.Tables.{degree_small}
use Rattle.grouping.proofs.draft.Draft.weight_of.Goals as goal

pub overflow_add-result : goal.overflow_add-result
overflow_add-result c =
    let t = vec_items c.args.self.now.routes in
    omega (arith, degree_small t c.args.r.low, degree_small t c.args.r.high, c.args.self.now.few.1)
