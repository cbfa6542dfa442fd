use Rattle.std.proofs.Common.{arith}
use Rattle.std.proofs.lemmas.Grind.{common_steps}
use Rattle.text.proofs.Sinks.{takes_more, takes_as}
use Rattle.lines.proofs.Lines.{line_fields}
use Rattle.lines.proofs.line.Line.put.Goals as goal

pub returns : goal.returns
returns g c =
    let laws = g.met.S.Sink.laws in takes_as laws (grind (arith, common_steps, line_fields)) (takes_more laws c.put_fields.ensures c.put.ensures)
