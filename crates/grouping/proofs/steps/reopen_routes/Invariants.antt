use Rattle.std.proofs.Common.{◌≡◌, ◌++◌, take, drop}
use Rattle.regrouping.specs.Steps.{opened}
use Rattle.grouping.proofs.steps.reopen_routes.Given as goal

abbrev pub invariant-loop-r : goal.invariant-loop-r
invariant-loop-r l = l.routes ≡ opened (take l.r-index l.initial.routes) ++ drop l.r-index l.initial.routes
