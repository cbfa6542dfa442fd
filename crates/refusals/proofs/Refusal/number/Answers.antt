use Rattle.std.proofs.Common.{rules}
use Rattle.refusals.proofs.Numbers.{number_back}
use Rattle.refusals.proofs.Refusal.number.Goals as goal

pub returns-clause-exact : goal.returns-clause-exact
returns-clause-exact c = search rules

pub returns-clause-alone : goal.returns-clause-alone
returns-clause-alone c = rw (returns-clause-exact c) (number_back c.args.self)
