-- A file with groups that passes the checks before is accepted exactly when its groups are an edge decomposition.
use Rattle.std.proofs.Common.{◌≡◌, ℕ, ◌<◌, List, length, None, Ok, Err, Result, sym, refl, arith}
use Rattle.std.proofs.lemmas.Bool.Decides.{nat_tests}
use Rattle.routes.specs.declared.route.Route.{Route}
use Rattle.routes.specs.declared.route.Group.{Group}
use Rattle.routes.specs.Groups.{first_misplaced}
use Rattle.routes.specs.Decomposition.{Decomposition}
use Rattle.routes.proofs.Decompositions.{decomposition_from, decomposed_from, decomposed_none, none_undecomposed}
use Rattle.dayfile.specs.declared.refusal.FileRefusal.{FileRefusal}
use Rattle.dayfile.specs.Verdict.{verdict_of}
use Rattle.dayfile.specs.Tables.{routes_of, group_count, groups_of}
use Rattle.dayfile.specs.Check.{JudgesGroups, first_unfit, tables_verdict, member_verdict, whole_verdict, file_verdict}
use Rattle.dayfile.proofs.Verdicts.{none_first, none_found}
use Rattle.dayfile.proofs.Stages.{length_groups_of}

-- ---- where groups are given, a route fits them by being placed
pub unfit_given : (t : List Route) (gs : List Group) → 0 < length gs → first_unfit t gs ≡ first_misplaced t gs
unfolding first_unfit
unfit_given t gs h = grind (arith, nat_tests)

module _ (bs : List ℕ) (passed : tables_verdict bs ≡ None) (given : 0 < group_count bs) where
  some_groups : 0 < length (groups_of bs)
  some_groups = omega (arith, length_groups_of bs)

  pub decomposition_accepted : file_verdict bs ≡ None → Decomposition (routes_of bs) (groups_of bs)
  unfolding file_verdict member_verdict whole_verdict
  decomposition_accepted e =
      let fit = unfit_given (routes_of bs) (groups_of bs) some_groups in
      decomposition_from (routes_of bs) (groups_of bs) (decomposed_none (routes_of bs) (groups_of bs) (grind (arith, none_first, none_found)) (grind (arith, none_first, none_found)))

  pub accepted_decomposition : Decomposition (routes_of bs) (groups_of bs) → file_verdict bs ≡ None
  unfolding file_verdict member_verdict whole_verdict
  accepted_decomposition d =
      let n = none_undecomposed (routes_of bs) (groups_of bs) (decomposed_from (routes_of bs) (groups_of bs) d) in
      simp (passed, unfit_given (routes_of bs) (groups_of bs) some_groups, n.0, n.1)

-- ---- an answer that has the verdict
pub judged : {X : Type 0} (bs : List ℕ) (r : Result X FileRefusal) → verdict_of r ≡ file_verdict bs → JudgesGroups bs r
judged bs (Ok x) e passed given = (λ _. decomposition_accepted bs passed given (sym e), λ _. refl)
judged bs (Err x) e passed given = (λ z. cc, λ d. let n = accepted_decomposition bs passed given d in cc)
