use Rattle.std.proofs.Common.{◌+◌, get_or, ◌∙◌, arith}
use Rattle.regrouping.specs.Table.{touches}
use Rattle.regrouping.proofs.Counts.{both_changed, both_more}
use Rattle.grouping.proofs.degrees.Degrees.one_more.Goals as goal

pub returns : goal.returns
returns c s =
    let r = c.args.r in
    both_changed (λ x. x + 1) c.args.self.now.counts r.low r.high s c.requires.inside.0 (omega (arith, c.requires.inside.1)) ∙
    both_more (touches s r) (get_or c.args.self.now.counts s 0)
