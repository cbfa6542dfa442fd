use Rattle.std.proofs.Common.{◌≡◌, ℕ, ◌+◌, ◌<◌, ◌≤◌, max, cond, get_or}
use Rattle.plans.specs.Meaning.{names}
use Rattle.book.proofs.stamp.Stamp.join.Given as goal

abbrev pub invariant-loop-k : goal.invariant-loop-k
invariant-loop-k l =
    ((j : ℕ) → j < l.k → get_or l.count-items j 0 ≡ max (get_or l.self.counts j 0) (get_or l.other.counts j 0) + cond (names l.turns j) 1 0)
    × ((j : ℕ) → l.k ≤ j → j < l.d → get_or l.count-items j 0 ≡ get_or l.self.counts j 0)
