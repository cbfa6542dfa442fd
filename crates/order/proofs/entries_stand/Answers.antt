use Rattle.order.proofs.Entries.{entries_law}
use Rattle.order.proofs.entries_stand.Goals as goal

pub returns : goal.returns
returns c = entries_law
