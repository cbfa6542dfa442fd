-- The routes that remain, those without a group, and what the three rules ask of them.
use Rattle.std.specs.Prelude.{◌≡◌, ℕ, ◌+◌, ◌-◌, ◌<◌, Bool, cond, ◌&&◌, ◌||◌, List, [], ◌∷◌, Some, None, Option, is_none, ◌==◌, nat_lt, slice_index}
use Rattle.routes.specs.declared.route.Route.{Route}
use Rattle.std.specs.List.{list_any}
use Rattle.routes.specs.Tests.{first}
use Rattle.routes.specs.Groups.{side}

-- the route remains: it has no group yet
abbrev pub remaining : Route → Bool
remaining r = is_none r.group

-- s is an end of the route
abbrev pub touches : ℕ → Route → Bool
touches s r = r.low == s || r.high == s

-- the route remains, and s is an end of it
abbrev pub on : ℕ → Route → Bool
on s r = remaining r && touches s r

-- how many routes of s remain
abbrev pub degree : List Route → ℕ → ℕ
degree [] s = 0
degree (r ∷ rs) s = cond (on s r) 1 0 + degree rs s

-- the numbers counted are the stations' degrees
abbrev pub Counted : List ℕ → List Route → Type 0
Counted d t = (s : ℕ) → s < 32 → slice_index d s ≡ degree t s

-- y where there is no answer, else f of it
abbrev pub answer : {X Y : Type 0} → Option X → Y → (X → Y) → Y
answer None y f = y
answer (Some x) y f = f x

-- s, where its degree is 1
abbrev pub lone : (ℕ → ℕ) → ℕ → Option ℕ
lone d s = cond (d s == 1) (Some s) None

-- the lowest station below n whose degree is 1
abbrev pub lowest_lone : (ℕ → ℕ) → ℕ → Option ℕ
lowest_lone d n = first (lone d) n 0

-- the leaf: the lowest station below n with exactly one remaining route
abbrev pub leaf : List Route → ℕ → Option ℕ
leaf t n = lowest_lone (degree t) n

-- the route remains, from a to b
abbrev pub joins : ℕ → ℕ → Route → Bool
joins a b r = remaining r && side a b r

-- the route from a to b is there and remains
abbrev pub remains : List Route → ℕ → ℕ → Bool
remains t a b = list_any (joins a b) t

-- two at least of the three
abbrev pub two_of : Bool → Bool → Bool → Bool
two_of x y z = (x && y) || (x && z) || (y && z)

-- a loose triangle: three remaining routes between a, b and c, and two of the corners have no other
abbrev pub loose : List Route → ℕ → ℕ → ℕ → Bool
loose t a b c =
    remains t a b && (remains t a c && (remains t b c && two_of (degree t a == 2) (degree t b == 2) (degree t c == 2)))

-- the loose triangle of a, b and c
abbrev pub third : List Route → ℕ → ℕ → ℕ → Option (ℕ × ℕ × ℕ)
third t a b c = cond (loose t a b c) (Some (a, b, c)) None

-- the first of a and b
abbrev pub second : List Route → ℕ → ℕ → ℕ → Option (ℕ × ℕ × ℕ)
second t n a b = first (third t a b) (n - (b + 1)) (b + 1)

-- the first whose lowest station is a
abbrev pub lowest : List Route → ℕ → ℕ → Option (ℕ × ℕ × ℕ)
lowest t n a = first (second t n a) (n - (a + 1)) (a + 1)

-- the first loose triangle below n, by lowest, middle and highest station
abbrev pub triangle : List Route → ℕ → Option (ℕ × ℕ × ℕ)
triangle t n = first (lowest t n) n 0

-- the weight of a route: the remaining routes at both its ends, and 0 where it does not remain
abbrev pub weight : List Route → Route → ℕ
weight t r = cond (remaining r) (degree t r.low + degree t r.high) 0

-- the place of the first route with the largest weight, where one is above top, else b; i is the place of the list's head
abbrev pub best_from : (Route → ℕ) → List Route → ℕ → ℕ → Option ℕ → Option ℕ
best_from w [] i top b = b
best_from w (r ∷ rs) i top b = cond (nat_lt top (w r)) (best_from w rs (i + 1) (w r) (Some i)) (best_from w rs (i + 1) top b)

-- the place of the heaviest route, the first in ascending order
abbrev pub best : List Route → Option ℕ
best t = best_from (weight t) t 0 0 None
