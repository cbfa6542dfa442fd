use Rattle.std.proofs.Common.{refl, rules}
use Rattle.dayfile.proofs.Causes.{taken_apart}
use Rattle.dayfile.proofs.check.day_file_check.Goals as goal

pub returns-clause-apart : goal.returns-clause-apart
returns-clause-apart c = taken_apart c.args.bytes.now _ _ refl (search rules)
