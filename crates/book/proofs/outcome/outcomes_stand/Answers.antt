use Rattle.book.proofs.Outcomes.{one_outcome}
use Rattle.book.proofs.outcome.outcomes_stand.Goals as goal

pub returns : goal.returns
returns g c = one_outcome g.P.Plan.meaning
