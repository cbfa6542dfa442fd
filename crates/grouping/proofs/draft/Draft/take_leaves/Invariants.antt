use Rattle.regrouping.specs.Steps.{leaves, live}
use Rattle.grouping.specs.Draft.{drawn}
use Rattle.grouping.proofs.Drafts.{Going}
use Rattle.grouping.proofs.draft.Draft.take_leaves.Given as goal

abbrev pub invariant-loop-c : goal.invariant-loop-c
invariant-loop-c l = Going (λ n. leaves n n) l.initial.self l.self

abbrev pub decreases-loop-c : goal.decreases-loop-c
decreases-loop-c l = live (drawn l.self).table l.self.stations
