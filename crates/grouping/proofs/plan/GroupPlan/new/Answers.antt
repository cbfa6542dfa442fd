use Rattle.std.proofs.Common.{length, refl, sym, ap, ◌∙◌, arith}
use Rattle.regrouping.specs.Table.{degree}
use Rattle.std.proofs.lemmas.Bool.Decides.{nat_tests}
use Rattle.grouping.proofs.plan.GroupPlan.new.Goals as goal

pub invariant_of-result : goal.invariant_of-result
invariant_of-result c =
    let r = c.args.room in
    record {
      few = (omega arith, omega (arith, ap length r.empty.0));
      room = r.room;
      ordered = rw r.empty.0 refl;
      places = grind (arith, nat_tests, ap length r.empty.1);
      counted = λ s h. c.count.ensures s h ∙ ap (λ t. degree t s) (sym r.empty.0);
    }
