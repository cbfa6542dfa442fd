use Rattle.std.proofs.Common.{◌≡◌, ℕ, ◌+◌, ◌<◌, get_or, drop}
use Rattle.regrouping.specs.Table.{degree}
use Rattle.grouping.proofs.degrees.Degrees.count.Given as goal

abbrev pub invariant-loop-r : goal.invariant-loop-r
invariant-loop-r l = (s : ℕ) → s < 32 → get_or l.degrees.counts s 0 + degree (drop l.r-index l.routes) s ≡ degree l.routes s
