-- The lines of the sample day's handovers. Assumes nothing.
use Rattle.std.proofs.Common.{◌≡◌, ℕ, zero, suc, ◌<◌, List, [], ◌∷◌, length, get_or, codes, refl, subst, arith}
use Rattle.std.specs.Fmt.{digits}
use Rattle.routes.specs.declared.route.Route.{Route}
use Rattle.routes.specs.declared.route.Group.{Group}
use Rattle.routes.specs.declared.route.Group.TheVariants.{Star}
use Rattle.regrouping.specs.Examples.{r}
use Rattle.plans.specs.Meaning.{Meaning, Lawful, Entry}
use Rattle.grouping.specs.Plan.{given, group_meaning}
use Rattle.grouping.specs.Laws.{group_lawful}
use Rattle.order.specs.Tally.{tally}
use Rattle.order.specs.Stamps.{present, stamp}
use Rattle.order.specs.Counts.{IsCount}
use Rattle.order.proofs.Counts.{count_law}
use Rattle.dayfile.specs.Tables.{route_at, routes_of, group_byte, group_at, groups_of}
use Rattle.dayfile.specs.Reading.{file_contents}
use Rattle.lines.specs.Line.{commas, handover_line, refused_handover_line}
use Rattle.sheet.specs.Day.{plan_of, handover_at, handed}
use Rattle.sheet.specs.Sheet.{Counts, refused, settled, HandedLine}
use Rattle.worked.specs.Sample.{sample}
use Rattle.worked.specs.Worked.{line}

-- the routes and the groups of the file, and its plan
abbrev day_routes : List Route
day_routes = r 0 1 0 ∷ r 0 2 0 ∷ r 2 3 1 ∷ []

abbrev day_groups : List Group
day_groups = Star 0 ∷ Star 3 ∷ []

abbrev day_plan : Meaning
day_plan = group_meaning (given 4 day_routes day_groups)

lawful : Lawful day_plan
lawful = group_lawful 4 day_routes day_groups (omega arith) (omega arith) refl refl

-- a stamp's two counts are numbers of entries
counts_of : (es : List Entry) (i x y : ℕ) → i < length es → stamp day_plan es i 0 ≡ x → stamp day_plan es i 1 ≡ y → Counts day_plan es i (x ∷ y ∷ [])
counts_of es i x y l p q = record { length = refl; counted = each }
  where
    each : (k : ℕ) → k < 2 → IsCount day_plan es k i (get_or (x ∷ y ∷ []) k 0)
    each zero h = subst (λ (n : ℕ). IsCount day_plan es 0 i n) p (count_law day_plan lawful es i 0 l)
    each (suc zero) h = subst (λ (n : ℕ). IsCount day_plan es 1 i n) q (count_law day_plan lawful es i 1 l)
    each (suc (suc k)) h = absurd (omega arith)

-- the line of handover i
abbrev Handed : ℕ → List ℕ → Type 0
Handed i text = HandedLine (plan_of sample) (handover_at sample) i (line text)

-- handover 3 is refused by number 11
not_0 : ◌≡◌ {A = ℕ} 11 0 → ⊥
not_0 e = omega arith

pub handed_0 : Handed 0 (codes "0 0 1 1,0")
unfolding sample plan_of file_contents routes_of route_at groups_of group_at group_byte handover_at handed tally present handover_line commas digits
handed_0 = settled refl (1 ∷ 0 ∷ []) (counts_of ((0, 1) ∷ []) 0 1 0 (omega arith) refl refl) refl

pub handed_1 : Handed 1 (codes "1 3 2 0,1")
unfolding sample plan_of file_contents routes_of route_at groups_of group_at group_byte handover_at handed tally present handover_line commas digits
handed_1 = settled refl (0 ∷ 1 ∷ []) (counts_of ((0, 1) ∷ (3, 2) ∷ []) 1 0 1 (omega arith) refl refl) refl

pub handed_2 : Handed 2 (codes "2 2 0 2,1")
unfolding sample plan_of file_contents routes_of route_at groups_of group_at group_byte handover_at handed tally present handover_line commas digits
handed_2 = settled refl (2 ∷ 1 ∷ []) (counts_of ((0, 1) ∷ (3, 2) ∷ (2, 0) ∷ []) 2 2 1 (omega arith) refl refl) refl

pub handed_3 : Handed 3 (codes "- 1 3 refused 11")
unfolding sample plan_of file_contents routes_of route_at groups_of group_at group_byte handover_at handed tally refused_handover_line digits
handed_3 = refused not_0 refl

pub handed_4 : Handed 4 (codes "3 0 1 3,1")
unfolding sample plan_of file_contents routes_of route_at groups_of group_at group_byte handover_at handed tally present handover_line commas digits
handed_4 = settled refl (3 ∷ 1 ∷ []) (counts_of ((0, 1) ∷ (3, 2) ∷ (2, 0) ∷ (0, 1) ∷ []) 3 3 1 (omega arith) refl refl) refl
