use Rattle.std.proofs.Common.{◌≡◌, ◌++◌, take, drop}
use Rattle.std.specs.List.{AllByRecursion}
use Rattle.regrouping.specs.Table.{Counted}
use Rattle.regrouping.specs.Steps.{Inside, mark}
use Rattle.grouping.proofs.steps.take_routes.Given as goal

abbrev pub invariant-loop-r : goal.invariant-loop-r
invariant-loop-r l =
    (l.routes ≡ mark l.group l.number (take l.r-index l.initial.routes) ++ drop l.r-index l.initial.routes)
    × Counted l.degrees.counts l.routes
    × AllByRecursion (Inside 32) l.routes
