use Rattle.std.proofs.Common.{◌≡◌, drop}
use Rattle.regrouping.specs.Table.{best, best_from, weight}
use Rattle.grouping.proofs.draft.Draft.best_route.Given as goal

abbrev pub invariant-loop-i : goal.invariant-loop-i
invariant-loop-i l = best l.r-items ≡ best_from (weight l.r-items) (drop l.i l.r-items) l.i l.top l.found
