use Rattle.std.proofs.Common.{◌≡◌, ℕ, ◌+◌, ◌-◌, ◌/◌, ◌<◌, true, false, length, vec_items, sym, ⊎_elim, arith}
use Rattle.std.proofs.lemmas.Bool.Decides.{nat_tests}
use Rattle.std.proofs.lemmas.Bool.{cases_lt}
use Rattle.routes.specs.Order.{before, pair}
use Rattle.routes.specs.Groups.{side}
use Rattle.regrouping.proofs.Finds.{from_none}
use Rattle.grouping.proofs.Drafts.{ascends}
use Rattle.grouping.proofs.Searches.{found_there, none_up_to, none_from_there}
use Rattle.grouping.proofs.draft.Draft.find_route.Goals as goal

pub returns-then-r-high : goal.returns-then-r-high
returns-then-r-high c =
    let d = c.args.self.now in
    let t = vec_items d.routes in
    let m : ℕ = c.loop-start.start + (c.loop-start.end - c.loop-start.start) / 2 in
    let h : m < length t = omega (arith, c.loop-start.invariant.0) in
    let s : side c.args.low c.args.high c.index-r.result.now ≡ true = grind (arith, nat_tests) in
    found_there t c.args.low c.args.high m (ascends d) h c.index-r.result.now c.index-r.ensures s

pub loop-start-preserved-then-r-high-2 : goal.loop-start-preserved-then-r-high-2
loop-start-preserved-then-r-high-2 c =
    let d = c.args.self.now in
    let t = vec_items d.routes in
    let m : ℕ = c.loop-start.start + (c.loop-start.end - c.loop-start.start) / 2 in
    let h : m < length t = omega (arith, c.loop-start.invariant.0) in
    let l : before (pair c.index-r.result.now) (c.args.low, c.args.high) ≡ true = grind (arith, nat_tests) in
    (c.loop-start.invariant.0, none_up_to t c.args.low c.args.high m (ascends d) h c.index-r.result.now c.index-r.ensures l, c.loop-start.invariant.2)

pub loop-start-preserved : goal.loop-start-preserved
loop-start-preserved c =
    let d = c.args.self.now in
    let t = vec_items d.routes in
    let m : ℕ = c.loop-start.start + (c.loop-start.end - c.loop-start.start) / 2 in
    let h : m < length t = omega (arith, c.loop-start.invariant.0) in
    let s : side c.args.low c.args.high c.index-r.result.now ≡ false = grind (arith, nat_tests) in
    let l : before (pair c.index-r.result.now) (c.args.low, c.args.high) ≡ false = grind (arith, nat_tests) in
    (omega (arith, h), c.loop-start.invariant.1, none_from_there t c.args.low c.args.high m (ascends d) h c.index-r.result.now c.index-r.ensures s l)

pub returns : goal.returns
returns c =
    sym (from_none (vec_items c.args.self.now.routes) c.args.low c.args.high
    (λ k h. ⊎_elim (λ q. c.loop-start.invariant.1 k q) (λ q. c.loop-start.invariant.2 k (omega arith) h) (cases_lt k c.loop-start.start)))
