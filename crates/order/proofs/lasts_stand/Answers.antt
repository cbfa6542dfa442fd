use Rattle.order.proofs.Lasts.{last_law}
use Rattle.order.proofs.lasts_stand.Goals as goal

pub returns : goal.returns
returns c = last_law
