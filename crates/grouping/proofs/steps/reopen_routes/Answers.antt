use Rattle.std.proofs.Common.{rules}
use Rattle.std.proofs.lemmas.List.Edits.{map_over_more}
use Rattle.std.proofs.lemmas.List.{take_all, drop_all}
use Rattle.regrouping.specs.Steps.{ungrouped}
use Rattle.grouping.proofs.steps.reopen_routes.Goals as goal

pub loop-r-preserved : goal.loop-r-preserved
loop-r-preserved c = search (rules, map_over_more ungrouped)

pub returns : goal.returns
returns c = search (rules, take_all, drop_all)
