use Rattle.order.proofs.Counts.{count_law, order_law, relation_law}
use Rattle.order.proofs.Partners.{partner_law}
use Rattle.order.proofs.stamps_stand.Goals as goal

pub returns : goal.returns
returns c = record { order = order_law; relation = relation_law; counts = count_law; partners = partner_law }
