-- The parts of a floor's text: how long they are, and what is left of them at each turn. Assumes nothing.
use Rattle.std.proofs.Common.{◌≡◌, ℕ, ◌+◌, ◌<◌, cond, List, [], ◌++◌, length, get_or, drop, codes, decimal, true, false, ap, ◌∙◌, arith}
use Rattle.std.specs.List.{flat_map}
use Rattle.std.proofs.lemmas.List.{length-append, at_drop_more}
use Rattle.routes.specs.declared.route.Route.{Route}
use Rattle.routes.specs.declared.route.Group.{Group}
use Rattle.routes.specs.declared.route.Group.TheVariants.{Star, Triangle}
use Rattle.routes.specs.Order.{no_route}
use Rattle.routes.specs.Groups.{is_in}
use Rattle.text.specs.Labelled.{labelled}
use Rattle.floortext.specs.Floor.{head_lines, route_text, member_text, shape_text, group_line, group_lines, floor_text}

pub length_route : (r : Route) → length (route_text r) ≡ length (labelled (codes " ") r.low) + length (labelled (codes "-") r.high)
unfolding route_text
length_route r = length-append _ _

pub length_triangle : (a b c : ℕ)
    → length (shape_text (Triangle a b c)) ≡ length (labelled (codes " triangle ") a) + (length (labelled (codes " ") b) + length (labelled (codes " ") c))
unfolding shape_text
length_triangle a b c = simp length-append

pub length-group_line : (t : List Route) (k : ℕ) (g : Group)
    → length (group_line t k g) ≡ length (labelled (codes "count ") k) + (length (shape_text g) + (1 + (length (flat_map (member_text k) t) + 1)))
unfolding group_line
length-group_line t k g = simp length-append (omega arith)

pub length-head_lines : (n d : ℕ) → length (head_lines n d) ≡ length (labelled (codes "stations ") n) + (1 + (length (labelled (codes "counts ") d) + 1))
unfolding head_lines
length-head_lines n d = simp length-append (omega arith)

pub length_floor : (n : ℕ) (t : List Route) (gs : List Group)
    → length (floor_text n t gs) ≡ length (head_lines n (length gs)) + length (group_lines t 0 gs)
unfolding floor_text
length_floor n t gs = length-append _ _

pub length_labelled : (word : List ℕ) (n : ℕ) → length (labelled word n) ≡ length word + length (decimal n)
unfolding labelled
length_labelled word n = length-append word (decimal n)

-- what is left of a group's routes begins with the route at place i, if it is of the group
pub members_in : (k : ℕ) (t : List Route) (i : ℕ) → i < length t → is_in k (get_or t i no_route) ≡ true
    → flat_map (member_text k) (drop i t) ≡ route_text (get_or t i no_route) ++ flat_map (member_text k) (drop (i + 1) t)
members_in k t i h e =
    at_drop_more (flat_map (member_text k)) t i no_route h ∙ ap (λ r. r ++ flat_map (member_text k) (drop (i + 1) t)) (ap (λ b. cond b (route_text (get_or t i no_route)) []) e)

pub members_out : (k : ℕ) (t : List Route) (i : ℕ) → i < length t → is_in k (get_or t i no_route) ≡ false
    → flat_map (member_text k) (drop i t) ≡ flat_map (member_text k) (drop (i + 1) t)
members_out k t i h ne =
    at_drop_more (flat_map (member_text k)) t i no_route h ∙ ap (λ r. r ++ flat_map (member_text k) (drop (i + 1) t)) (ap (λ b. cond b (route_text (get_or t i no_route)) []) ne)

-- what is left of the groups' lines begins with the line of the group at place i
pub group_lines_more : (t : List Route) (gs : List Group) (i : ℕ) → i < length gs
    → group_lines t i (drop i gs) ≡ group_line t i (get_or gs i (Star 0)) ++ group_lines t (i + 1) (drop (i + 1) gs)
group_lines_more t gs i h = at_drop_more (group_lines t i) gs i (Star 0) h
