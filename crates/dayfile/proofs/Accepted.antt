-- A file without a refusal: a group plan takes its routes, and the groups that it gives.
use Rattle.std.proofs.Common.{◌≡◌, ℕ, ◌<◌, ◌≤◌, true, false, eqb, leb, List, length, None, ap, arith}
use Rattle.std.proofs.lemmas.Bool.{and_from, le-leb, eq-eqb, ne_eqb}
use Rattle.routes.specs.declared.route.Route.{Route}
use Rattle.routes.specs.declared.route.Group.{Group}
use Rattle.routes.specs.Order.{ordered, ends}
use Rattle.routes.specs.Groups.{decomposed}
use Rattle.routes.proofs.Orders.{ordered_none}
use Rattle.routes.proofs.Decompositions.{decomposed_from}
use Rattle.grouping.specs.Plan.{acceptable, acceptable_grouped, given, built}
use Rattle.dayfile.specs.declared.layout.Layout.{Layout}
use Rattle.dayfile.specs.Layout.{station_count, Reads}
use Rattle.dayfile.specs.Tables.{routes_of, group_count, groups_of}
use Rattle.dayfile.specs.Check.{order_verdict, record_verdict, tables_verdict, file_verdict}
use Rattle.dayfile.specs.Reading.{file_contents}
use Rattle.dayfile.proofs.Verdicts.{none_first, none_found}
use Rattle.dayfile.proofs.Stages.{length-routes_of, length_groups_of}
use Rattle.dayfile.proofs.Judged.{decomposition_accepted}

-- ---- each check passes
pub tables_accepted : (bs : List ℕ) → file_verdict bs ≡ None → tables_verdict bs ≡ None
unfolding file_verdict
tables_accepted bs e = grind (arith, none_first)

pub records_accepted : (bs : List ℕ) → file_verdict bs ≡ None → record_verdict bs ≡ None
unfolding file_verdict tables_verdict
records_accepted bs e = grind (arith, none_first)

pub ordered_accepted : (bs : List ℕ) → file_verdict bs ≡ None → ordered (station_count bs) (ends (routes_of bs)) ≡ true
unfolding file_verdict tables_verdict order_verdict
ordered_accepted bs e = ordered_none (station_count bs) (routes_of bs) (grind (arith, none_first, none_found))

module _ (bs : List ℕ) (l : Layout) (reads : Reads bs l) (accepted : file_verdict bs ≡ None) {t : List Route} (is-t : t ≡ routes_of bs) where
  pub takes_routes : acceptable l.stations t ≡ true
  takes_routes =
      let o : ordered l.stations (ends t) ≡ true = simp (is-t, reads.0.1) (ordered_accepted bs accepted) in
      let q : length t ≤ 496 = omega (arith, ap length is-t, length-routes_of bs, reads.1.1, reads.1.4) in
      and_from (leb l.stations 32) _ (le-leb l.stations 32 reads.0.2) (and_from (leb (length t) 496) _ (le-leb (length t) 496 q) o)

  -- ---- what they are, by the file
  module _ {gs : List Group} (is-gs : gs ≡ groups_of bs) where
    pub takes_groups : 0 < length gs → acceptable_grouped l.stations t gs ≡ true
    takes_groups some =
        let d : decomposed t gs ≡ true = simp (is-t, is-gs) (decomposed_from (routes_of bs) (groups_of bs) (decomposition_accepted bs (tables_accepted bs accepted) (omega (arith, ap length is-gs, length_groups_of bs)) accepted)) in
        let q : length gs ≤ 32 = omega (arith, ap length is-gs, length_groups_of bs, reads.2.1, reads.2.4) in
        and_from (acceptable l.stations t) _ takes_routes (and_from (leb (length gs) 32) _ (le-leb (length gs) 32 q) d)

    pub built_is : length gs ≡ 0 → built l.stations t ≡ file_contents bs
    unfolding file_contents
    built_is none =
        let z : eqb (group_count bs) 0 ≡ true = eq-eqb (group_count bs) 0 (omega (arith, ap length is-gs, length_groups_of bs)) in simp (z, is-t, reads.0.1)

    pub given_is : 0 < length gs → given l.stations t gs ≡ file_contents bs
    unfolding file_contents
    given_is some =
        let z : eqb (group_count bs) 0 ≡ false = ne_eqb (group_count bs) 0 (λ z. omega (arith, ap length is-gs, length_groups_of bs)) in simp (z, is-t, is-gs, reads.0.1)
