use Rattle.std.proofs.Common.{length, rules}
use Rattle.routes.proofs.Firsts.{first_failing_is}
use Rattle.dayfile.specs.Check.{groupless_at, first_unfit, first_grouped}
use Rattle.dayfile.proofs.check.first_unfit.Goals as goal

pub returns-then-is_empty-clause-place : goal.returns-then-is_empty-clause-place
unfolding first_unfit first_grouped
returns-then-is_empty-clause-place c =
    let t = c.args.routes.now in
    let e = first_failing_is (groupless_at t) (length t) c.position.result (search rules) in search rules
