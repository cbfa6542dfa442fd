use Rattle.std.proofs.Common.{length, rules}
use Rattle.routes.specs.Groups.{whole_at}
use Rattle.routes.proofs.Firsts.{first_failing_is}
use Rattle.routes.proofs.checks.first_incomplete.Goals as goal

pub returns-clause-place : goal.returns-clause-place
returns-clause-place c = first_failing_is (whole_at c.args.routes.now c.args.groups.now) (length c.args.groups.now) _ (search rules)
