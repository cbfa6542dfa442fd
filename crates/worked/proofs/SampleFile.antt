-- What the sample file tells: it is accepted, what its day settles, what it asks. Assumes nothing.
use Rattle.std.proofs.Common.{◌≡◌, List, [], ◌∷◌, None, refl}
use Rattle.plans.specs.Meaning.{Entry}
use Rattle.order.specs.Tally.{tally}
use Rattle.dayfile.specs.Layout.{pair_verdict, layout_verdict}
use Rattle.dayfile.specs.Tables.{route_at, routes_of, group_byte, group_at, groups_of, is_group_record, first_no_group}
use Rattle.dayfile.specs.Check.{order_verdict, record_verdict, first_grouped, first_unfit, member_verdict, whole_verdict, tables_verdict, file_verdict}
use Rattle.dayfile.specs.Reading.{file_contents}
use Rattle.sheet.specs.Day.{plan_of, handover_count, handover_at, question_at, handed}
use Rattle.sheet.specs.Sheet.{day_entries}
use Rattle.worked.specs.Sample.{sample}

pub accepted : file_verdict sample ≡ None
unfolding sample file_verdict tables_verdict layout_verdict pair_verdict order_verdict record_verdict first_no_group is_group_record member_verdict first_unfit first_grouped whole_verdict routes_of route_at groups_of group_at group_byte
accepted = refl

-- what its day settles
abbrev pub day_settled : List Entry
day_settled = (0, 1) ∷ (3, 2) ∷ (2, 0) ∷ (0, 1) ∷ []

pub entries_are : day_entries sample ≡ day_settled
unfolding sample plan_of file_contents routes_of route_at groups_of group_at group_byte handover_count handover_at handed tally
entries_are = refl

pub question_0 : question_at sample 0 ≡ (0, 1)
unfolding sample question_at
question_0 = refl

pub question_1 : question_at sample 1 ≡ (0, 3)
unfolding sample question_at
question_1 = refl

pub question_2 : question_at sample 2 ≡ (3, 1)
unfolding sample question_at
question_2 = refl

pub question_3 : question_at sample 3 ≡ (2, 2)
unfolding sample question_at
question_3 = refl

pub question_4 : question_at sample 4 ≡ (0, 4)
unfolding sample question_at
question_4 = refl
