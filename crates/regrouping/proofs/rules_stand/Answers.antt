use Rattle.regrouping.proofs.Taking.{rules_take}
use Rattle.regrouping.proofs.rules_stand.Goals as goal

pub returns : goal.returns
returns c = rules_take
