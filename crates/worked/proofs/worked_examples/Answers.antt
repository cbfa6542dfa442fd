use Rattle.std.proofs.Common.{List, sym, refl, subst}
use Rattle.plans.specs.Meaning.{Entry}
use Rattle.order.specs.declared.kinds.Relation.TheVariants.{Before, Beside}
use Rattle.order.specs.Chains.{Stands}
use Rattle.worked.proofs.Stamps.{two_settled, first_stamp, second_stamp}
use Rattle.worked.proofs.SampleFile.{accepted, entries_are, question_0, question_1}
use Rattle.worked.proofs.Questions.{beside, before, asked_0, asked_1}
use Rattle.worked.proofs.SampleSheet.{whole_sheet}
use Rattle.worked.proofs.worked_examples.Goals as goal

pub returns : goal.returns
returns c = record {
  larger_counts_and_one_more = refl;
  two_settled = two_settled;
  first_stamp = first_stamp;
  second_stamp = second_stamp;
  path_regrouped = refl;
  square_regrouped = refl;
  triangles_regrouped = refl;
  lift_dial = refl;
  too_many_dials = λ p q. refl;
  dials_enough = refl;
  sample_accepted = accepted;
  sample_entries = entries_are;
  question_0 = question_0;
  beside = subst (λ (es : List Entry). Stands es 0 1 Beside) (sym entries_are) beside;
  beside_line = asked_0;
  question_1 = question_1;
  before = subst (λ (es : List Entry). Stands es 0 3 Before) (sym entries_are) before;
  before_line = asked_1;
  whole_sheet = whole_sheet;
}
