use Rattle.std.proofs.Common.{◌<◌, ◌≤◌, length, arith, rules}
use Rattle.lines.specs.Line.{handover_line}
use Rattle.lines.proofs.Bounds.{Small, handover_most, handover_least}
use Rattle.lines.proofs.parts.handover_fits.Goals as goal

pub returns-then-counts-room : goal.returns-then-counts-room
returns-then-counts-room c =
    let a = c.args in
    let xs = a.counts.now in
    let small : Small xs = λ i l. omega (arith, c.type_inv.counts i) in
    let fit : length (handover_line a.number a.giver a.taker xs) ≤ a.room =
    omega (arith, handover_most a.number a.giver a.taker xs (omega arith) (omega arith) (omega arith) small) in
    search rules

pub returns-then-counts-room-2 : goal.returns-then-counts-room-2
returns-then-counts-room-2 c =
    let a = c.args in
    let xs = a.counts.now in
    let small : Small xs = λ i l. omega (arith, c.type_inv.counts i) in
    let short : a.room < length (handover_line a.number a.giver a.taker xs) = omega (arith, handover_least a.number a.giver a.taker xs small) in
    search rules
