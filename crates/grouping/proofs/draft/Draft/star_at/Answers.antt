use Rattle.std.proofs.Common.{arith}
use Rattle.routes.specs.declared.route.Group.TheVariants.{Star}
use Rattle.grouping.proofs.Drafts.{takes_last}
use Rattle.grouping.proofs.draft.Draft.star_at.Goals as goal

pub write_group-requires : goal.write_group-requires
write_group-requires c = takes_last c.args.self.now (Star c.args.c) (omega arith)
