use Rattle.order.proofs.Chains.{one_relation}
use Rattle.order.proofs.relations_stand.Goals as goal

pub returns : goal.returns
returns c = one_relation
