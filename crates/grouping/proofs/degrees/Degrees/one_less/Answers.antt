use Rattle.std.proofs.Common.{◌+◌, ◌-◌, ◌<◌, cond, eqb, get_or, sym, ap, ◌∙◌, subst, ⊎_elim, arith}
use Rattle.std.proofs.lemmas.Bool.{or_cases, eqb-true}
use Rattle.regrouping.specs.Table.{touches}
use Rattle.regrouping.proofs.Counts.{both_changed, both_less}
use Rattle.grouping.proofs.degrees.Degrees.one_less.Goals as goal

pub returns : goal.returns
returns c s =
    let r = c.args.r in
    let d = c.args.self.now.counts in
    both_less (touches s r) (get_or d s 0)
    (λ e. ⊎_elim (λ u. subst (λ k. 0 < get_or d k 0) (eqb-true r.low s u) c.requires.some.0) (λ u. subst (λ k. 0 < get_or d k 0) (eqb-true r.high s u) c.requires.some.1)
    (or_cases (eqb r.low s) (eqb r.high s) e)) ∙
    ap (λ x. x + cond (touches s r) 1 0) (sym (both_changed (λ x. x - 1) d r.low r.high s c.requires.inside.0 (omega (arith, c.requires.inside.1))))
