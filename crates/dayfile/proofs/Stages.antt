-- Tables out of a file's records: how long they are, and how they grow.
use Rattle.std.proofs.Common.{◌≡◌, ℕ, ◌+◌, ◌*◌, ◌<◌, Bool, true, false, Option, List, [], ◌∷◌, ◌++◌, map, length, IfSome, Some, None, sym, ap, ap₂, ◌∙◌, get_or, length-append, arith}
use Rattle.std.proofs.lemmas.List.{get_or_append_left, get_or-append-add}
use Rattle.std.specs.List.{range_with_len}
use Rattle.std.proofs.lemmas.List.FromFn.{length-map-range_with_len, map-range_with_len_more}
use Rattle.refusals.specs.declared.Refusal.TheVariants.{GroupRecord}
use Rattle.routes.proofs.Firsts.{first_failing_at, first_failing_passes}
use Rattle.routes.specs.Tests.{LowestFailing}
use Rattle.dayfile.specs.Verdict.{refused, refuse_at}
use Rattle.dayfile.specs.Layout.{word}
use Rattle.dayfile.specs.Tables.{route_at, route_count, routes_of, group_at, group_count, groups_of, is_group_record, first_no_group, Stands}
use Rattle.dayfile.specs.Check.{record_verdict}

pub length-routes_of : (bs : List ℕ) → length (routes_of bs) ≡ route_count bs
unfolding routes_of
length-routes_of bs = length-map-range_with_len (route_at bs) 0 (route_count bs)

pub length_groups_of : (bs : List ℕ) → length (groups_of bs) ≡ group_count bs
unfolding groups_of
length_groups_of bs = length-map-range_with_len (group_at bs) 0 (group_count bs)

-- what was found in a table of n records lies below n
pub found_below : (p : ℕ → Bool) (n : ℕ) (found : Option ℕ) → LowestFailing p n found → IfSome found (λ i. i < n)
found_below p n None e = tt
found_below p n (Some i) e = e.below

pub ruleset section_steps = (length-routes_of, length_groups_of, found_below)

-- the first n records, and one more
pub table_more : {X : Type 0} (f : ℕ → X) (n : ℕ) → map f (range_with_len 0 (n + 1)) ≡ map f (range_with_len 0 n) ++ f n ∷ []
table_more f n = map-range_with_len_more f 0 n n (omega arith)

pub ruleset table_steps = (length-map-range_with_len, table_more)

-- a table that holds the first records, and one more
pub table_grows : {X : Type 0} (f : ℕ → X) (xs ys : List X) (x : X) → xs ≡ map f (range_with_len 0 (length xs)) → x ≡ f (length xs) → ys ≡ xs ++ x ∷ [] → ys ≡ map f (range_with_len 0 (length ys))
table_grows f xs ys x old new more =
    more ∙ ap₂ (λ (zs : List _) (z : _). zs ++ z ∷ []) old new ∙ sym (table_more f (length xs)) ∙ ap (λ (n : ℕ). map f (range_with_len 0 n)) (omega (arith, ap length more, length-append xs (x ∷ [])))

-- ---- the first record of bytes that stand in a file, and the others
module _ (bs : List ℕ) (p : ℕ) (xs x ys : List ℕ) (parts : xs ≡ x ++ ys) (stands : Stands xs bs p) where
  pub first_stands : Stands x bs p
  first_stands k l = sym (get_or_append_left x ys 0 k l) ∙ ap (λ (zs : List ℕ). get_or zs k 0) (sym parts) ∙ stands k (omega (arith, ap length parts, length-append x ys, l))

  pub rest_stands : (q : ℕ) → q ≡ p + length x → Stands ys bs q
  rest_stands q e k l =
      sym (get_or-append-add x ys k 0) ∙ ap (λ (zs : List ℕ). get_or zs (length x + k) 0) (sym parts) ∙ stands (length x + k) (omega (arith, ap length parts, length-append x ys, l))
      ∙ ap (λ (n : ℕ). get_or bs n 0) (omega (arith, e))

-- ---- the first record that is no group's, and where there is none
module _ (bs : List ℕ) (n : ℕ) where
  pub stops_at_group : n < group_count bs → ((k : ℕ) → k < n → is_group_record bs k ≡ true) → is_group_record bs n ≡ false → record_verdict bs ≡ Some (refused GroupRecord (word bs 6 + 4 * n))
  unfolding record_verdict first_no_group
  stops_at_group l before here = ap (refuse_at GroupRecord (word bs 6) 4) (first_failing_at (is_group_record bs) (group_count bs) n l before here)

pub all_groups : (bs : List ℕ) → ((k : ℕ) → k < group_count bs → is_group_record bs k ≡ true) → record_verdict bs ≡ None
unfolding record_verdict first_no_group
all_groups bs each = ap (refuse_at GroupRecord (word bs 6) 4) (first_failing_passes (is_group_record bs) (group_count bs) each)
