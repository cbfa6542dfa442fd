-- What the reading of a day file puts into a group plan.
use Rattle.std.specs.Prelude.{◌≡◌, ℕ, cond, List, Result, MatchResult, ◌==◌}
use Rattle.grouping.specs.declared.plan.GroupPlan.{GroupPlan}
use Rattle.grouping.specs.Plan.{Contents, contents, given, built}
use Rattle.dayfile.specs.declared.refusal.FileRefusal.{FileRefusal}
use Rattle.dayfile.specs.Layout.{station_count}
use Rattle.dayfile.specs.Tables.{routes_of, group_count, groups_of}

-- the stations and routes of the file, in the groups that it gives, or in built ones where it gives none
unfoldable pub file_contents : List ℕ → Contents
file_contents bs =
    cond (group_count bs == 0) (built (station_count bs) (routes_of bs)) (given (station_count bs) (routes_of bs) (groups_of bs))

-- a reading of the file turned the plan p into p': all of it is the file's, or a refusal left it as it was
abbrev pub ReadsInto : {X : Type 0} → List ℕ → GroupPlan → GroupPlan → Result X FileRefusal → Type 0
ReadsInto bs p p' r = MatchResult r (λ _. contents p' ≡ file_contents bs) (λ _. p' ≡ p)
