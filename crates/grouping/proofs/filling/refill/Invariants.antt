use Rattle.std.proofs.Common.{◌≡◌, take, vec_items, vec_capacity}
use Rattle.grouping.proofs.filling.refill.Given as goal

abbrev pub invariant-loop-item : goal.invariant-loop-item
invariant-loop-item g l = (vec_items l.to ≡ take l.item-index l.items) × (vec_capacity l.to ≡ vec_capacity l.initial.to)
