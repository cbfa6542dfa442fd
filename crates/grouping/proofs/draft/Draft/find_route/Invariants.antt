use Rattle.std.proofs.Common.{◌≡◌, ℕ, ◌-◌, ◌<◌, ◌≤◌, false, length, get_or, vec_items}
use Rattle.routes.specs.Order.{no_route}
use Rattle.routes.specs.Groups.{side}
use Rattle.grouping.proofs.draft.Draft.find_route.Given as goal

abbrev pub invariant-loop-start : goal.invariant-loop-start
invariant-loop-start l =
    (l.end ≤ length (vec_items l.self.routes))
    × ((k : ℕ) → k < l.start → side l.low l.high (get_or (vec_items l.self.routes) k no_route) ≡ false)
    × ((k : ℕ) → l.end ≤ k → k < length (vec_items l.self.routes) → side l.low l.high (get_or (vec_items l.self.routes) k no_route) ≡ false)

abbrev pub decreases-loop-start : goal.decreases-loop-start
decreases-loop-start l = l.end - l.start
