use Rattle.std.proofs.Common.{length, drop}
use Rattle.std.specs.List.{flat_map}
use Rattle.floortext.specs.Floor.{member_text}
use Rattle.text.specs.Vector.{Room, Added}
use Rattle.text.proofs.Sinks.{Lacks}
use Rattle.floortext.proofs.floor.put_members.Given as goal

abbrev pub invariant-loop-route : goal.invariant-loop-route
invariant-loop-route l =
    Room l.initial.out (length (flat_map (member_text l.k) l.routes))
    → Lacks Room Added l.initial.out (flat_map (member_text l.k) l.routes) l.out (flat_map (member_text l.k) (drop l.route-index l.routes))
