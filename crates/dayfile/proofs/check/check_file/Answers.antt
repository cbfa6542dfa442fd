use Rattle.std.proofs.Common.{Ok, rules}
use Rattle.dayfile.specs.Check.{file_verdict, tables_verdict}
use Rattle.dayfile.proofs.Judged.{judged}
use Rattle.dayfile.proofs.check.check_file.Goals as goal

pub returns-in_err-check_members-clause-groups : goal.returns-in_err-check_members-clause-groups
unfolding file_verdict tables_verdict
returns-in_err-check_members-clause-groups c = judged c.args.bytes.now _ (search rules)

pub returns-in_err-check_wholes-clause-groups : goal.returns-in_err-check_wholes-clause-groups
unfolding file_verdict tables_verdict
returns-in_err-check_wholes-clause-groups c = judged c.args.bytes.now _ (search rules)

pub returns-clause-groups : goal.returns-clause-groups
unfolding file_verdict tables_verdict
returns-clause-groups c = judged c.args.bytes.now (Ok c.in_ok-sections.sections.layout) (search rules)
