use Rattle.order.proofs.Entries.{no_dial_law}
use Rattle.order.proofs.dialless_stand.Goals as goal

pub returns : goal.returns
returns c = no_dial_law
