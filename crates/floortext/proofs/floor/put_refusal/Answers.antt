use Rattle.text.specs.Line.{refused_file_line}
use Rattle.text.specs.Vector.{vector_laws}
use Rattle.text.proofs.Sinks.{takes_more}
use Rattle.floortext.proofs.floor.put_refusal.Goals as goal

pub returns : goal.returns
unfolding refused_file_line
returns c = takes_more vector_laws c.put_refused.ensures c.put_byte.ensures c.requires
