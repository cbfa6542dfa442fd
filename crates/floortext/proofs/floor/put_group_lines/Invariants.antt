use Rattle.std.proofs.Common.{length, drop}
use Rattle.floortext.specs.Floor.{group_lines}
use Rattle.text.specs.Vector.{Room, Added}
use Rattle.text.proofs.Sinks.{Lacks}
use Rattle.floortext.proofs.floor.put_group_lines.Given as goal

abbrev pub invariant-loop-k : goal.invariant-loop-k
invariant-loop-k l =
    Room l.initial.out (length (group_lines l.routes 0 l.groups)) → Lacks Room Added l.initial.out (group_lines l.routes 0 l.groups) l.out (group_lines l.routes l.k (drop l.k l.groups))
