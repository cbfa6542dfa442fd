-- The text of a floor: its stations, then a line for each group with its routes.
use Rattle.std.specs.Prelude.{ℕ, ◌+◌, cond, List, [], ◌∷◌, ◌++◌, length, codes}
use Rattle.std.specs.List.{flat_map}
use Rattle.routes.specs.declared.route.Route.{Route}
use Rattle.routes.specs.declared.route.Group.{Group}
use Rattle.routes.specs.declared.route.Group.TheVariants.{Star, Triangle}
use Rattle.routes.specs.Groups.{is_in}
use Rattle.text.specs.Labelled.{labelled}

-- the byte that ends a line
abbrev pub newline : List ℕ
newline = 10 ∷ []

-- a route: a space, its lower end, a hyphen, its higher end
unfoldable pub route_text : Route → List ℕ
route_text r = labelled (codes " ") r.low ++ labelled (codes "-") r.high

-- a route in the line of group k: there if it is of that group
abbrev pub member_text : ℕ → Route → List ℕ
member_text k r = cond (is_in k r) (route_text r) []

-- the shape of a group, with its stations
unfoldable pub shape_text : Group → List ℕ
shape_text (Star c) = labelled (codes " star ") c
shape_text (Triangle a b c) = labelled (codes " triangle ") a ++ (labelled (codes " ") b ++ labelled (codes " ") c)

-- the line of group k: its number, its shape, and its routes in the order of the table
unfoldable pub group_line : List Route → ℕ → Group → List ℕ
group_line t k g = labelled (codes "count ") k ++ (shape_text g ++ (codes ":" ++ (flat_map (member_text k) t ++ newline)))

-- the lines of the groups gs, numbered from k
abbrev pub group_lines : List Route → ℕ → List Group → List ℕ
group_lines t k [] = []
group_lines t k (g ∷ gs) = group_line t k g ++ group_lines t (k + 1) gs

-- the two lines ahead of the groups: how many stations there are, and how many counts
unfoldable pub head_lines : ℕ → ℕ → List ℕ
head_lines n d = labelled (codes "stations ") n ++ (newline ++ (labelled (codes "counts ") d ++ newline))

-- the text of a floor of n stations, its routes and its groups
unfoldable pub floor_text : ℕ → List Route → List Group → List ℕ
floor_text n t gs = head_lines n (length gs) ++ group_lines t 0 gs
