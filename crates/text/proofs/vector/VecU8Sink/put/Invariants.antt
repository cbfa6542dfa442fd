use Rattle.std.proofs.Common.{take}
use Rattle.text.specs.Vector.{Added}
use Rattle.text.proofs.vector.VecU8Sink.put.Given as goal

abbrev pub invariant-loop-byte : goal.invariant-loop-byte
invariant-loop-byte l = Added l.fn.self (take l.byte-index l.text) l.self
