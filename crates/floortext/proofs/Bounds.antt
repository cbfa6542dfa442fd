-- How long a floor's text can be: at most 3,894 bytes. Assumes nothing.
use Rattle.std.proofs.Common.{◌≡◌, ℕ, suc, ◌+◌, ◌*◌, ◌^◌, ◌<◌, ◌≤◌, true, cond, leb, List, [], ◌∷◌, length, get_or, ◌==◌, Some, None, Option, codes, decimal, ap, ⊎_elim, arith}
use Rattle.std.specs.List.{flat_map}
use Rattle.std.proofs.lemmas.Fmt.{length-decimal-le}
use Rattle.std.proofs.lemmas.List.{length-append}
use Rattle.std.proofs.lemmas.Bool.Decides.{nat_tests}
use Rattle.routes.specs.declared.route.Route.{Route}
use Rattle.routes.specs.declared.route.Group.{Group}
use Rattle.routes.specs.declared.route.Group.TheVariants.{Star, Triangle}
use Rattle.routes.specs.Order.{no_route, ends, ordered}
use Rattle.routes.specs.Tests.{is_some_and}
use Rattle.routes.specs.Decomposition.{Decomposition, Member, Joined, Shaped}
use Rattle.routes.proofs.Orders.{inside_at}
use Rattle.text.specs.Labelled.{labelled}
use Rattle.text.specs.Line.{refused_file_line}
use Rattle.floortext.specs.Floor.{route_text, member_text, shape_text, group_line, group_lines, floor_text}
use Rattle.floortext.proofs.Floors.{length_route, length_triangle, length-group_line, length-head_lines, length_floor, length_labelled}

-- both ends of a route are of at most two digits
abbrev Short : Route → Type 0
Short r = (r.low < 100) × (r.high < 100)

-- so are the stations of a group
abbrev ShortShape : Group → Type 0
ShortShape (Star c) = c < 100
ShortShape (Triangle a b c) = (a < 100) × (b < 100) × (c < 100)

-- 1 for a route that is of group k or a later one
abbrev one_from : ℕ → Option ℕ → ℕ
one_from k None = 0
one_from k (Some g) = cond (leb k g) 1 0

-- how many routes are of group k or a later one
abbrev from : ℕ → List Route → ℕ
from k [] = 0
from k (r ∷ t) = one_from k r.group + from k t

two_digits : (n : ℕ) → n < 100 → length (decimal n) ≤ 2
two_digits n h = length-decimal-le 2 n (omega arith) (omega arith) (omega arith)

labelled_le : (word : List ℕ) (n : ℕ) → n < 100 → length (labelled word n) ≤ length word + 2
labelled_le word n h = omega (arith, length_labelled word n, two_digits n h)

route_le : (r : Route) → Short r → length (route_text r) ≤ 6
route_le r h = omega (arith, length_route r, labelled_le (codes " ") r.low h.0, labelled_le (codes "-") r.high h.1)

shape_le : (g : Group) → ShortShape g → length (shape_text g) ≤ 18
unfolding shape_text
shape_le (Star c) h = omega (arith, labelled_le (codes " star ") c h)
shape_le (Triangle a b c) h =
    omega (arith, length_triangle a b c, labelled_le (codes " triangle ") a h.0, labelled_le (codes " ") b h.1, labelled_le (codes " ") c h.2)

-- a route takes its bytes in the line of its own group alone
group_le : (k : ℕ) (o : Option ℕ) (text : List ℕ) → length text ≤ 6 → length (cond (is_some_and (λ j. j == k) o) text []) + 6 * one_from (k + 1) o ≤ 6 * one_from k o
group_le k None text h = omega arith
group_le k (Some g) text h = grind (arith, nat_tests)

member_le : (k : ℕ) (r : Route) → Short r → length (member_text k r) + 6 * one_from (k + 1) r.group ≤ 6 * one_from k r.group
member_le k r h = group_le k r.group (route_text r) (route_le r h)

members_le : (k : ℕ) (t : List Route) → ((i : ℕ) → i < length t → Short (get_or t i no_route))
    → length (flat_map (member_text k) t) + 6 * from (k + 1) t ≤ 6 * from k t
members_le k [] s = omega arith
members_le k (r ∷ t) s =
    omega (arith, length-append (member_text k r) (flat_map (member_text k) t), member_le k r (s 0 (omega arith)), members_le k t (λ i h. s (suc i) (omega arith)))

group_line_le : (t : List Route) (k : ℕ) (g : Group) → k < 100 → ShortShape g → length (group_line t k g) ≤ 28 + length (flat_map (member_text k) t)
group_line_le t k g h s = omega (arith, length-group_line t k g, labelled_le (codes "count ") k h, shape_le g s)

group_lines_le : (t : List Route) (k : ℕ) (gs : List Group) → k + length gs ≤ 32
    → ((i : ℕ) → i < length t → Short (get_or t i no_route))
    → ((g : ℕ) → g < length gs → ShortShape (get_or gs g (Star 0)))
    → length (group_lines t k gs) ≤ 28 * length gs + 6 * from k t
group_lines_le t k [] h s q = omega arith
group_lines_le t k (g ∷ gs) h s q =
    omega (
      arith,
      length-append (group_line t k g) (group_lines t (k + 1) gs),
      group_line_le t k g (omega arith) (q 0 (omega arith)),
      members_le k t s,
      group_lines_le t (k + 1) gs (omega arith) s (λ i e. q (suc i) (omega arith)),
    )

one_most : (k : ℕ) (o : Option ℕ) → one_from k o ≤ 1
one_most k None = omega arith
one_most k (Some g) = grind (arith, nat_tests)

from_le : (k : ℕ) (t : List Route) → from k t ≤ length t
from_le k [] = omega arith
from_le k (r ∷ t) = omega (arith, from_le k t, one_most k r.group)

short_route : (n : ℕ) (t : List Route) → n ≤ 32 → ordered n (ends t) ≡ true → (i : ℕ) → i < length t → Short (get_or t i no_route)
short_route n t few o i h = let e = inside_at n t i o h in (grind (arith, nat_tests), grind (arith, nat_tests))

-- the ends of a route of a group
short_ends : (t : List Route) (g : ℕ) (e : ℕ × ℕ) → ((i : ℕ) → i < length t → Short (get_or t i no_route)) → Joined t g e → (e.0 < 100) × (e.1 < 100)
short_ends t g e s j =
    let m = s j.0 j.1.0 in (omega (arith, ap (λ (x : ℕ × ℕ). x.0) j.2), omega (arith, ap (λ (x : ℕ × ℕ). x.1) j.2))

-- a group has a route, whose ends are short
short_shape : (t : List Route) (g : ℕ) (k : Group) → ((i : ℕ) → i < length t → Short (get_or t i no_route)) → (i : ℕ) × Member t g i → Shaped t g k → ShortShape k
short_shape t g (Star c) s m h = let e = s m.0 m.1.0 in ⊎_elim (λ p. omega arith) (λ p. omega arith) (h m.0 m.1)
short_shape t g (Triangle a b c) s m h =
    ((short_ends t g (a, b) s h.1).0, (short_ends t g (a, b) s h.1).1, (short_ends t g (b, c) s h.3).1)

-- the text of a group plan's floor
pub floor_le : (n : ℕ) (t : List Route) (gs : List Group) → n ≤ 32 → length t ≤ 496 → length gs ≤ 32
    → ordered n (ends t) ≡ true → Decomposition t gs → length (floor_text n t gs) ≤ 3894
floor_le n t gs few short brief o d =
    let s = short_route n t few o in
    omega (
      arith,
      length_floor n t gs,
      length-head_lines n (length gs),
      labelled_le (codes "stations ") n (omega arith),
      labelled_le (codes "counts ") (length gs) (omega arith),
      group_lines_le t 0 gs (omega arith) s (λ g h. short_shape t g (get_or gs g (Star 0)) s (d.inhabited g h) (d.shaped g h)),
      from_le 0 t,
    )

-- the line of a refused file
pub refusal_le : (n place : ℕ) → n < 100 → place < 2 ^ 16 → length (refused_file_line n place) ≤ 20
unfolding refused_file_line
refusal_le n place h i =
    let two = two_digits n h in
    let five = length-decimal-le 5 place (omega arith) (omega arith) (omega arith) in
    simp length-append (omega arith)
