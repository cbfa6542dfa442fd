use Rattle.regrouping.proofs.Regroups.{regroups}
use Rattle.regrouping.proofs.regroups_stand.Goals as goal

pub returns : goal.returns
returns c = regroups
