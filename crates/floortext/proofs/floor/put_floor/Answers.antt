use Rattle.floortext.specs.Floor.{floor_text}
use Rattle.text.specs.Vector.{vector_laws}
use Rattle.text.proofs.Sinks.{takes_more}
use Rattle.floortext.proofs.floor.put_floor.Goals as goal

pub returns : goal.returns
unfolding floor_text
returns c = takes_more vector_laws c.put_head_lines.ensures c.put_group_lines.ensures c.requires.0
