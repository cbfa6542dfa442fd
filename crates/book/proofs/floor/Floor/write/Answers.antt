use Rattle.std.proofs.Common.{sym}
use Rattle.book.proofs.Calling.{floor_settled}
use Rattle.book.proofs.floor.Floor.write.Goals as goal

pub returns : goal.returns
returns g c =
    let new = c.settle.ensures in
    floor_settled g.P.Plan.meaning c.args.self.now c.settle.new.self _ _ _ _ (sym c.requires) new.number c.dials-d.ensures c.route-turns.ensures new.wrote
