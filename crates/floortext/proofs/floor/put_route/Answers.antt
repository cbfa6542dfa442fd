use Rattle.floortext.specs.Floor.{route_text}
use Rattle.text.specs.Vector.{vector_laws}
use Rattle.text.proofs.Sinks.{takes_more}
use Rattle.floortext.proofs.floor.put_route.Goals as goal

pub returns : goal.returns
unfolding route_text
returns c = takes_more vector_laws c.put_labelled.ensures c.put_labelled-2.ensures
