use Rattle.std.proofs.Common.{ap}
use Rattle.floortext.specs.Floor.{shape_text}
use Rattle.text.specs.Vector.{vector_laws}
use Rattle.text.proofs.Sinks.{takes_more, takes_as}
use Rattle.floortext.proofs.floor.put_shape.Goals as goal

pub returns-in-Star : goal.returns-in-Star
unfolding shape_text
returns-in-Star c = takes_as vector_laws (ap shape_text c.in-Star.is) c.put_labelled.ensures

pub returns-in-Triangle : goal.returns-in-Triangle
unfolding shape_text
returns-in-Triangle c =
    takes_as vector_laws (ap shape_text c.in-Triangle.is)
    (takes_more vector_laws c.put_labelled-in-Triangle.ensures (takes_more vector_laws c.put_labelled-in-Triangle-2.ensures c.put_labelled-in-Triangle-3.ensures))
