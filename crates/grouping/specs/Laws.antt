-- A group plan shows the laws of a plan, by what every group plan holds.
use Rattle.std.specs.Prelude.{◌≡◌, ℕ, ◌+◌, ◌≤◌, min, max, true, false, List, length, Some, None, Option, ◌≢◌, refl}
use Rattle.std.proofs.Common.{arith, ap}
use Rattle.std.proofs.lemmas.Bool.Decides.{nat_tests}
use Rattle.std.proofs.lemmas.Bool.{eqb-true, false≢true}
use Rattle.plans.specs.Meaning.{Lawful, Entry, is_route, names, Apart, shares}
use Rattle.routes.specs.declared.route.Route.{Route}
use Rattle.routes.specs.declared.route.Group.{Group}
use Rattle.routes.specs.Order.{ends, ordered}
use Rattle.routes.specs.Groups.{decomposed}
use Rattle.regrouping.specs.Pairs.{between}
use Rattle.regrouping.proofs.Meets.{Meet, between_inside, between_group, groups_meet}
use Rattle.grouping.specs.Plan.{given, dial, group_meaning}

not_route : (o : Option ℕ) → ((g : ℕ) → o ≢ Some g) → is_route (dial o) ≡ false
not_route None h = refl
not_route (Some g) h = absurd (h g refl)

names_some : (o : Option ℕ) (k : ℕ) → names (dial o) k ≡ true → o ≡ Some k
names_some None k e = absurd (false≢true e)
names_some (Some g) k e = ap Some (eqb-true g k e)

one_apart : (o : Option ℕ) → Apart (dial o)
one_apart None = tt
one_apart (Some g) = tt

between_comm : (t : List Route) (a b : ℕ) → between t a b ≡ between t b a
between_comm t a b = let x : min a b ≡ min b a = omega arith in let y : max a b ≡ max b a = omega arith in cc

meet_shares : (e f : Entry) → Meet e.0 e.1 f.0 f.1 → shares e f ≡ true
meet_shares e f m = grind (arith, nat_tests)

-- where each group and each live station has a place, the groups do
pub few_groups : (g l : ℕ) → g + l ≤ 32 → g ≤ 32
few_groups g l h = omega arith

pub group_lawful : (n : ℕ) (t : List Route) (gs : List Group) → n ≤ 32 → length gs ≤ 32 → ordered n (ends t) ≡ true → decomposed t gs ≡ true → Lawful (group_meaning (given n t gs))
group_lawful n t gs few few_groups o d =
    record {
      few_stations = few;
      few_dials = few_groups;
      inside = λ a b h. not_route (between t a b) (λ g e. omega (arith, (between_inside n t a b g o e).0));
      reversed = λ a b. ap dial (between_comm t a b);
      no_loop = λ a. not_route (between t a a) (λ g e. (between_inside n t a a g o e).2 refl);
      dial_in = λ a b k h. between_group gs t a b k d (names_some (between t a b) k h);
      apart = λ a b. one_apart (between t a b);
      common = λ e f k g h. meet_shares e f (groups_meet t gs d e.0 e.1 f.0 f.1 k (names_some (between t e.0 e.1) k g) (names_some (between t f.0 f.1) k h));
    }
