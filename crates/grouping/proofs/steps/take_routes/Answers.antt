use Rattle.std.proofs.Common.{◌≡◌, ◌<◌, Bool, false, ◌&&◌, length, get_or, sym, ap, ◌∙◌, subst, arith, rules}
use lib.Seq.{set-get_or}
use Rattle.std.specs.List.{AllByRecursion}
use Rattle.std.proofs.lemmas.Bool.Decides.{nat_tests}
use Rattle.std.proofs.ByRecursion.{All-get_or, All-set}
use Rattle.std.proofs.lemmas.List.{take_all, drop_all}
use Rattle.routes.specs.Order.{no_route}
use Rattle.routes.specs.Groups.{fits}
use Rattle.regrouping.specs.Table.{remaining, degree}
use Rattle.regrouping.specs.Steps.{Inside, in_group}
use Rattle.regrouping.proofs.Counts.{count_out}
use Rattle.regrouping.proofs.Marks.{taken_turn, passed_turn}
use Rattle.regrouping.proofs.Tables.{ends_live}
use Rattle.grouping.proofs.Drafts.{none_is}
use Rattle.grouping.proofs.steps.take_routes.Goals as goal
use Rattle.grouping.proofs.steps.take_routes.Goals.{then-is_none+then-fits, else-is_none, else-is_none-via-then-is_none+else-fits, else-is_none-via-else-is_none}

pub one_less-requires : goal.one_less-requires
one_less-requires c =
    let t = c.loop-r.routes in
    let l : c.loop-r.r-index < length t = omega (arith, c.loop-r-test.true, c.loop-r.auto.routes) in
    let h = All-get_or (Inside 32) t c.loop-r.r-index no_route l c.loop-r.invariant.2 in
    let p = ends_live t c.loop-r.r-index l (none_is _ _ c.is_none.ensures ∙ c.if-is_none.true) in
    record { inside = h; some = (omega (arith, p.0, c.loop-r.invariant.1 (get_or t c.loop-r.r-index no_route).low (omega (arith, h.0, h.1))), omega (arith, p.1, c.loop-r.invariant.1 (get_or t c.loop-r.r-index no_route).high h.1)) }

passed_left : (x y : Bool) → x ≡ false → (x && y) ≡ false
passed_left x y e = grind (arith, nat_tests)

passed_right : (x y : Bool) → y ≡ false → (x && y) ≡ false
passed_right x y e = grind (arith, nat_tests)

pub loop-r-preserved : goal.loop-r-preserved
loop-r-preserved c =
    let t = c.loop-r.routes in
    let s = c.args.routes.now in
    let i = c.loop-r.r-index in
    let r = get_or t i no_route in
    let g = c.args.number in
    let l : i < length t = omega (arith, c.loop-r-test.true, c.loop-r.auto.routes) in
    let h = All-get_or (Inside 32) t i no_route l c.loop-r.invariant.2 in
    let turn = passed_turn c.args.group g s t i c.loop-r-test.true c.loop-r.auto.routes c.loop-r.invariant.0 in
    elim c.if-is_none.branch [
      | then-is_none+then-fits w ↦ (
        w.routes-is ∙ taken_turn c.args.group g s t i c.loop-r-test.true c.loop-r.auto.routes c.loop-r.invariant.0 (none_is _ _ c.is_none.ensures ∙ w.if-is_none.true) (sym w.fits.ensures ∙ w.if-fits.true),
        (λ x b. ap (λ d. get_or d.counts x 0) w.degrees-is ∙ (count_out t i x g _ _ l (none_is _ _ c.is_none.ensures ∙ w.if-is_none.true) (c.loop-r.invariant.1 x b) (w.one_less.ensures x) ∙ ap (λ y. degree y x) (sym w.routes-is))),
        subst (AllByRecursion (Inside 32)) (sym w.routes-is) (All-set (Inside 32) t i (in_group g r) h c.loop-r.invariant.2),
      )
      | else-is_none w ↦
          elim w.else-is_none.branch [
            | else-is_none-via-then-is_none+else-fits v ↦
                (let e : c.if-is_none.routes ≡ t = w.routes-is ∙ (v.routes-is ∙ set-get_or t i no_route) in (
                  e ∙ turn (passed_right (remaining r) (fits c.args.group r) (sym v.fits.ensures ∙ v.if-fits.false)),
                  (λ x b. ap (λ d. get_or d.counts x 0) w.degrees-is ∙ (c.loop-r.invariant.1 x b ∙ ap (λ y. degree y x) (sym e))),
                  subst (AllByRecursion (Inside 32)) (sym e) c.loop-r.invariant.2,
                ))
            | else-is_none-via-else-is_none v ↦
                (let e : c.if-is_none.routes ≡ t = w.routes-is ∙ (v.routes-is ∙ set-get_or t i no_route) in (
                  e ∙ turn (passed_left (remaining r) (fits c.args.group r) (none_is _ _ c.is_none.ensures ∙ v.if-is_none.false)),
                  (λ x b. ap (λ d. get_or d.counts x 0) w.degrees-is ∙ (c.loop-r.invariant.1 x b ∙ ap (λ y. degree y x) (sym e))),
                  subst (AllByRecursion (Inside 32)) (sym e) c.loop-r.invariant.2,
                ))
          ]
    ]

pub returns : goal.returns
returns c = record { marked = search (rules, take_all, drop_all); counted = c.loop-r.invariant.1 }
