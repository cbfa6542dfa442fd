use Rattle.regrouping.specs.Steps.{triangles, live}
use Rattle.grouping.specs.Draft.{drawn}
use Rattle.grouping.proofs.Drafts.{Going}
use Rattle.grouping.proofs.draft.Draft.take_triangles.Given as goal

abbrev pub invariant-loop-a : goal.invariant-loop-a
invariant-loop-a l = Going (λ n. triangles n n) l.initial.self l.self

abbrev pub decreases-loop-a : goal.decreases-loop-a
decreases-loop-a l = live (drawn l.self).table l.self.stations
