use Rattle.regrouping.specs.Steps.{rounds, live}
use Rattle.grouping.specs.Draft.{drawn}
use Rattle.grouping.proofs.Drafts.{Going}
use Rattle.grouping.proofs.draft.Draft.all_rounds.Given as goal

abbrev pub invariant-loop-self : goal.invariant-loop-self
invariant-loop-self l = Going (λ n. rounds n n) l.initial.self l.self

abbrev pub decreases-loop-self : goal.decreases-loop-self
decreases-loop-self l = live (drawn l.self).table l.self.stations
