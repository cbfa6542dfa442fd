use Rattle.std.proofs.Common.{◌≡◌, ℕ, ◌+◌, ◌<◌, ◌≤◌, get_or, drop, ap, ◌∙◌, arith}
use Rattle.std.proofs.lemmas.List.{get_or-replicate}
use Rattle.std.proofs.ByRecursion.{All-get_or}
use Rattle.routes.specs.Order.{no_route}
use Rattle.regrouping.specs.Table.{degree}
use Rattle.regrouping.specs.Steps.{Inside}
use Rattle.regrouping.proofs.Tables.{degree_small, degree_all}
use Rattle.regrouping.proofs.Counts.{count_in, count_over}
use Rattle.grouping.proofs.Drafts.{none_is}
use Rattle.grouping.proofs.degrees.Degrees.count.Goals as goal
use Rattle.grouping.proofs.degrees.Degrees.count.Goals.{then-is_none, else-is_none}

pub loop-r-init : goal.loop-r-init
loop-r-init c s h = let e = ap (λ x. x + degree c.args.routes.now s) (get_or-replicate 32 s 0 0 h) in e ∙ (let z : 0 + degree c.args.routes.now s ≡ degree c.args.routes.now s = omega arith in z)

pub one_more-requires : goal.one_more-requires
one_more-requires c =
    let t = c.args.routes.now in
    let h = All-get_or (Inside 32) t c.loop-r.r-index no_route c.loop-r-test.true c.requires.inside in
    let few : (s : ℕ) → s < 32 → get_or c.loop-r.degrees.counts s 0 ≤ 496 = λ s l. omega (arith, c.loop-r.invariant s l, degree_small t s, c.requires.short) in
    record { inside = h; few = (few _ (omega (arith, h.0, h.1)), few _ h.1) }

pub loop-r-preserved : goal.loop-r-preserved
loop-r-preserved c =
    let t = c.args.routes.now in
    elim c.if-is_none.branch [
      | then-is_none w ↦ (λ s h. count_in t c.loop-r.r-index s _ _ c.loop-r-test.true (none_is _ _ c.is_none.ensures ∙ w.if-is_none.true) (c.loop-r.invariant s h) (ap (λ d. get_or d.counts s 0) w.degrees-is ∙ w.one_more.ensures s))
      | else-is_none w ↦ (λ s h. count_over t c.loop-r.r-index s _ c.loop-r-test.true (none_is _ _ c.is_none.ensures ∙ w.if-is_none.false) (ap (λ d. get_or d.counts s 0 + degree (drop c.loop-r.r-index t) s) w.degrees-is ∙ c.loop-r.invariant s h))
    ]

pub returns : goal.returns
returns c s h = omega (arith, c.loop-r.invariant s h, degree_all c.args.routes.now c.loop-r.r-index s c.loop-r-test.false)
