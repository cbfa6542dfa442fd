use Rattle.floortext.specs.Floor.{head_lines}
use Rattle.text.specs.Vector.{vector_laws}
use Rattle.text.proofs.Sinks.{takes_more}
use Rattle.floortext.proofs.floor.put_head_lines.Goals as goal

pub returns : goal.returns
unfolding head_lines
returns c = takes_more vector_laws c.put_labelled.ensures (takes_more vector_laws c.put_byte.ensures (takes_more vector_laws c.put_labelled-2.ensures c.put_byte-2.ensures))
