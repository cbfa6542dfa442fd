use Rattle.std.proofs.Common.{◌≡◌, ◌+◌, true, not, get_or, sym, ap, ◌∙◌, subst, arith}
use Rattle.std.specs.List.{AllByRecursion}
use Rattle.std.proofs.lemmas.Bool.Decides.{nat_tests}
use Rattle.std.proofs.ByRecursion.{All-get_or}
use Rattle.std.proofs.lemmas.Bool.{cond-true}
use Rattle.routes.specs.Order.{no_route}
use Rattle.regrouping.specs.Table.{remaining, degree, best, weight}
use Rattle.regrouping.specs.Steps.{Inside}
use Rattle.regrouping.proofs.Tables.{best_more, best_all}
use Rattle.regrouping.proofs.Counts.{best_skip}
use Rattle.grouping.proofs.Drafts.{inside, some_is}
use Rattle.grouping.proofs.draft.Draft.best_route.Goals as goal

pub weight_of-w-requires : goal.weight_of-w-requires
weight_of-w-requires c =
    let all = subst (AllByRecursion (Inside 32)) (sym c.deref-r-items.ensures.value) (inside c.args.self.now) in
    let h = All-get_or (Inside 32) c.deref-r-items.result.now c.loop-i.i no_route c.loop-i-test.true all in
    (omega (arith, h.0, h.1), h.1)

pub loop-i-preserved-then-is_some : goal.loop-i-preserved-then-is_some
loop-i-preserved-then-is_some c =
    c.loop-i.invariant ∙ best_skip c.deref-r-items.result.now c.loop-i.i c.loop-i.top c.loop-i.found c.loop-i-test.true (some_is _ _ c.is_some.ensures ∙ ap not c.if-is_some.true)

pub loop-i-preserved : goal.loop-i-preserved
loop-i-preserved c =
    let t = c.deref-r-items.result.now in
    let i = c.loop-i.i in
    let r = get_or t i no_route in
    let live : remaining r ≡ true = some_is _ _ c.is_some.ensures ∙ ap not c.if-is_some.false in
    let w : c.weight_of-w.result ≡ weight t r =
    c.weight_of-w.ensures ∙ (ap (λ u. degree u r.low + degree u r.high) (sym c.deref-r-items.ensures.value) ∙ sym (cond-true (remaining r) (degree t r.low + degree t r.high) 0 live)) in
    let m = best_more (weight t) t i c.loop-i.top c.loop-i.found c.loop-i-test.true in
    grind (arith, nat_tests)

pub returns : goal.returns
returns c =
    let t = c.deref-r-items.result.now in
    sym (c.loop-i.invariant ∙ best_all (weight t) t c.loop-i.i c.loop-i.top c.loop-i.found (omega arith)) ∙ ap best c.deref-r-items.ensures.value
