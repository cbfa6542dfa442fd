use Rattle.order.proofs.Entries.{pending_law}
use Rattle.order.proofs.pendings_stand.Goals as goal

pub returns : goal.returns
returns c = pending_law
