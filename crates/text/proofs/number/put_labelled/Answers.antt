use Rattle.std.proofs.Common.{arith}
use Rattle.std.proofs.lemmas.Grind.{common_steps}
use Rattle.text.specs.Labelled.{labelled}
use Rattle.text.proofs.Sinks.{takes_more, takes_as}
use Rattle.text.proofs.number.put_labelled.Goals as goal

pub returns : goal.returns
unfolding labelled
returns g c =
    let laws = g.met.S.Sink.laws in takes_as laws (grind (arith, common_steps)) (takes_more laws c.put.ensures c.put_number.ensures)
