-- The cause of a refused file: its number is 1 to 8, and its place is a byte of the longest file.
use Rattle.std.proofs.Common.{◌≡◌, ℕ, ◌+◌, ◌*◌, ◌/◌, ◌%◌, ◌<◌, ◌≤◌, ◌==◌, Bool, true, false, List, length, Some, None, Option, sym, refl, ap, ◌∙◌, subst, div-mul-le_self, arith}
use lib.Arith.{digits_div, digits_mod}
use Rattle.std.proofs.lemmas.Bool.{cond_both}
use Rattle.std.proofs.lemmas.Bool.Decides.{nat_tests}
use Rattle.refusals.specs.declared.Refusal.{Refusal}
use Rattle.refusals.specs.declared.Refusal.TheVariants.{RouteOrder, GroupRecord, RouteGroup, GroupIncomplete}
use Rattle.refusals.specs.Number.{number}
use Rattle.routes.specs.Tests.{first_failing}
use Rattle.routes.specs.Groups.{placed_at, first_misplaced}
use Rattle.routes.proofs.Firsts.{first_failing_some}
use Rattle.dayfile.specs.declared.refusal.FileRefusal.{FileRefusal}
use Rattle.dayfile.specs.Verdict.{refused, refuse_if, refuse_at, and_then, packed, TakenApart}
use Rattle.dayfile.specs.Layout.{word, end_of, pair_verdict, layout_verdict}
use Rattle.dayfile.specs.Tables.{routes_of, group_count, groups_of, first_no_group}
use Rattle.dayfile.specs.Check.{order_verdict, record_verdict, member_verdict, whole_verdict, tables_verdict, file_verdict, groupless_at, first_grouped, first_unfit}
use Rattle.dayfile.proofs.Sections.{record_inside}
use Rattle.dayfile.proofs.Verdicts.{none_first}
use Rattle.dayfile.proofs.Stages.{length-routes_of, length_groups_of}

-- a number of 1 to 8
abbrev Numbered : Refusal → Type 0
Numbered why = (1 ≤ number why) × (number why ≤ 8)

record Cause (e : FileRefusal) : Type 0 where
  pub numbered : Numbered e.refusal
  pub in_file : e.place < 8192

-- a verdict has such a cause, if it refuses
record Caused (v : Option FileRefusal) : Type 0 where
  pub is : (e : FileRefusal) → v ≡ Some e → Cause e

-- ---- one check, and two in order, the second where the first passes
if_caused : (t : Bool) (why : Refusal) {byte : ℕ} → Numbered why → byte < 8192 → Caused (refuse_if t why byte)
if_caused true why n h = record { is = λ e q. subst Cause (cc) (let c : Cause (refused why _) = record { numbered = n; in_file = h } in c) }
if_caused false why n h = record { is = λ e q. absurd (cc) }

then_caused : {v w : Option FileRefusal} → Caused v → (v ≡ None → Caused w) → Caused (and_then v w)
then_caused {v = None} c d = d refl
then_caused {v = Some e} c d = record { is = λ x q. c.is x q }

-- a check of the records of a section of len bytes
at_caused : (why : Refusal) (start size len n : ℕ) (p : ℕ → Bool) → Numbered why → 0 < size → start + len ≤ 8192 → n ≡ len / size → Caused (refuse_at why start size (first_failing p n))
at_caused why start size len n p m s h k = found (first_failing p n) refl
  where
    found : (o : Option ℕ) → o ≡ first_failing p n → Caused (refuse_at why start size o)
    found None f = record { is = λ e q. absurd (cc) }
    found (Some i) f =
        let b = (first_failing_some p n i (sym f)).below in
        let l : start + size * i < 8192 = omega (arith, record_inside start (len / size) size i 8192 (omega (arith, div-mul-le_self len size)) (omega (arith, b, k))) in
        if_caused true why m l

-- ---- the layout
pair_caused : (bs : List ℕ) (p from size most : ℕ) → p < 8192 → Caused (pair_verdict bs p from size most)
unfolding pair_verdict
pair_caused bs p from size most h = search (arith, then_caused, if_caused)

layout_caused : (bs : List ℕ) → Caused (layout_verdict bs)
unfolding layout_verdict
layout_caused bs = search (arith, then_caused, if_caused, pair_caused)

-- the routes and the groups of a file whose layout is in order lie within the longest file
record Inside (bs : List ℕ) : Type 0 where
  pub routes : word bs 2 + word bs 4 ≤ 8192
  pub groups : word bs 6 + word bs 8 ≤ 8192

pair_end : (bs : List ℕ) (p from size most : ℕ) → pair_verdict bs p from size most ≡ None → end_of bs p ≤ length bs
unfolding pair_verdict
pair_end bs p from size most q = grind (arith, nat_tests)

layout_inside : (bs : List ℕ) → layout_verdict bs ≡ None → Inside bs
unfolding layout_verdict
layout_inside bs q = record { routes = grind (arith, nat_tests, none_first, pair_end); groups = grind (arith, nat_tests, none_first, pair_end) }

-- ---- the tables
order_caused : (bs : List ℕ) → Inside bs → Caused (order_verdict bs)
unfolding order_verdict
order_caused bs h = at_caused RouteOrder (word bs 2) 3 (word bs 4) (length (routes_of bs)) _ (omega arith, omega arith) (omega arith) h.routes (length-routes_of bs)

record_caused : (bs : List ℕ) → Inside bs → Caused (record_verdict bs)
unfolding record_verdict first_no_group
record_caused bs h = at_caused GroupRecord (word bs 6) 4 (word bs 8) (group_count bs) _ (omega arith, omega arith) (omega arith) h.groups refl

member_caused : (bs : List ℕ) → Inside bs → Caused (member_verdict bs)
unfolding member_verdict first_unfit first_grouped
member_caused bs h =
    let t = routes_of bs in
    let gs = groups_of bs in
    let at : (p : ℕ → Bool) → Caused (refuse_at RouteGroup (word bs 2) 3 (first_failing p (length t))) =
    λ p. at_caused RouteGroup (word bs 2) 3 (word bs 4) (length t) p (omega arith, omega arith) (omega arith) h.routes (length-routes_of bs) in
    cond_both (length gs == 0) (first_grouped t) (first_misplaced t gs) (λ found. Caused (refuse_at RouteGroup (word bs 2) 3 found)) (λ _. at (groupless_at t)) (λ _. at (placed_at t gs))

whole_caused : (bs : List ℕ) → Inside bs → Caused (whole_verdict bs)
unfolding whole_verdict
whole_caused bs h = at_caused GroupIncomplete (word bs 6) 4 (word bs 8) (length (groups_of bs)) _ (omega arith, omega arith) (omega arith) h.groups (length_groups_of bs)

file_caused : (bs : List ℕ) → Caused (file_verdict bs)
unfolding file_verdict tables_verdict
file_caused bs =
    then_caused (then_caused (layout_caused bs) (λ n. let h = layout_inside bs n in then_caused (order_caused bs h) (λ _. record_caused bs h)))
    (λ n. let h = layout_inside bs (none_first _ _ n).0 in then_caused (member_caused bs h) (λ _. whole_caused bs h))

-- ---- the reply of the C call
pub taken_apart : (bs : List ℕ) (v : Option FileRefusal) (reply : ℕ) → file_verdict bs ≡ v → reply ≡ packed v → TakenApart v reply
taken_apart bs None reply q r = r
taken_apart bs (Some e) reply q r =
    let c = (file_caused bs).is e q in
    let small : e.place < 65536 = omega (arith, c.in_file) in
    record {
      number = ap (λ n. n / 65536) r ∙ digits_div (number e.refusal) small;
      place = ap (λ n. n % 65536) r ∙ digits_mod (number e.refusal) small;
      least = c.numbered.0;
      most = c.numbered.1;
      in_file = c.in_file;
    }
