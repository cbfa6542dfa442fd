use Rattle.floortext.specs.Floor.{group_line}
use Rattle.text.specs.Vector.{vector_laws}
use Rattle.text.proofs.Sinks.{takes_more}
use Rattle.floortext.proofs.floor.put_group_line.Goals as goal

pub returns : goal.returns
unfolding group_line
returns c =
    takes_more vector_laws c.put_labelled.ensures
    (takes_more vector_laws c.put_shape.ensures (takes_more vector_laws c.put_byte.ensures (takes_more vector_laws c.put_members.ensures c.put_byte-2.ensures)))
