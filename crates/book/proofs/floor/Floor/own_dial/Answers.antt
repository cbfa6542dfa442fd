use Rattle.std.proofs.Common.{ap, ◌∙◌}
use Rattle.plans.specs.Meaning.{first_dial}
use Rattle.book.proofs.Reading.{dial_low}
use Rattle.book.proofs.floor.Floor.own_dial.Goals as goal

pub returns-clause-low : goal.returns-clause-low
returns-clause-low g c = dial_low _ (g.met.P.Plan.lawful c.args.self.now.plan) _ _ _ (c.first.ensures ∙ ap first_dial c.route.ensures)
