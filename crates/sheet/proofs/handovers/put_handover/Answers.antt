use Rattle.std.proofs.Common.{arith, rules}
use Rattle.sheet.proofs.Handing.{put_refused, put_settled}
use Rattle.sheet.proofs.handovers.put_handover.Goals as goal

pub returns-in-Ok : goal.returns-in-Ok
returns-in-Ok c =
    let p = c.in-Ok.ensures in
    put_settled c.args.dials c.counts_of-counts.result p.call p.run c.counts_of-counts.ensures c.requires.dials c.requires.comes
    (search rules) (search rules) (search rules) (omega arith) c.requires.room c.put.ensures

pub returns-in-Err : goal.returns-in-Err
returns-in-Err c =
    put_refused c.args.floor.now c.hand_over.new.self c.args.giver c.args.taker c.in-Err.refusal _ _ c.in-Err.ensures.call c.in-Err.ensures.run
    c.requires.room c.put-in-Err.ensures (search rules) (search rules)
