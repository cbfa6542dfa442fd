use Rattle.regrouping.proofs.Pairs.{pair_law}
use Rattle.regrouping.proofs.pairs_stand.Goals as goal

pub returns : goal.returns
returns c = pair_law
