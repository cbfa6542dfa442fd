use Rattle.std.proofs.Common.{Ok, arith}
use Rattle.std.proofs.lemmas.Grind.{common_steps}
use Rattle.book.proofs.Histories.{last_run}
use Rattle.book.proofs.floor.Floor.last.Goals as goal

pub returns-clause-run : goal.returns-clause-run
returns-clause-run g c = last_run g.P.Plan.meaning g.met.P.Plan.lawful _ _ (Ok c.last_of.result) (grind (arith, common_steps))
