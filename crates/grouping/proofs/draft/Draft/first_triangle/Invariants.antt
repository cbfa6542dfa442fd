use Rattle.std.proofs.Common.{◌≡◌, ◌+◌, ◌-◌, None, vec_items}
use Rattle.std.specs.Option.{option_or}
use Rattle.routes.specs.Tests.{first}
use Rattle.regrouping.specs.Table.{triangle, lowest, second, third}
use Rattle.grouping.proofs.draft.Draft.first_triangle.Given as goal

abbrev pub invariant-search : goal.invariant-search
invariant-search l = (l.found ≡ None) × (triangle (vec_items l.self.routes) l.n ≡ first (lowest (vec_items l.self.routes) l.n) (l.n - l.a) l.a)

abbrev pub invariant-loop-b : goal.invariant-loop-b
invariant-loop-b l =
    (l.found ≡ None) × (triangle (vec_items l.self.routes) l.n ≡
    option_or (first (second (vec_items l.self.routes) l.n l.a) (l.n - l.b) l.b)
    (first (lowest (vec_items l.self.routes) l.n) (l.n - (l.a + 1)) (l.a + 1)))

abbrev pub invariant-loop-c : goal.invariant-loop-c
invariant-loop-c l =
    (l.found ≡ None) × (triangle (vec_items l.self.routes) l.n ≡
    option_or (option_or (first (third (vec_items l.self.routes) l.a l.b) (l.n - l.c) l.c)
    (first (second (vec_items l.self.routes) l.n l.a) (l.n - (l.b + 1)) (l.b + 1)))
    (first (lowest (vec_items l.self.routes) l.n) (l.n - (l.a + 1)) (l.a + 1)))
