use Rattle.std.proofs.Common.{◌≡◌, true, false, length, arith, rules}
use Rattle.std.proofs.lemmas.Iterator.{first_from_Range}
use Rattle.routes.specs.Order.{in_order}
use Rattle.routes.proofs.Firsts.{first_failing_is, lowest_in_range}
use Rattle.routes.proofs.Orders.{unordered_exact}
use Rattle.routes.proofs.checks.first_unordered.Goals as goal

pub returns : goal.returns
returns c =
    let p = in_order c.args.stations c.args.routes.now in
    let found = first_from_Range _ _ _ _ (λ k. p k ≡ false) (λ k. p k ≡ true) c.find.ensures.ran (λ x q k. search rules) (λ x q k. search rules) in
    let l = lowest_in_range p _ (length c.args.routes.now) c.find.result (omega arith) found in
    let e = first_failing_is _ _ _ l in
    record { place = e; lowest = l; exact = unordered_exact c.args.stations c.args.routes.now _ e }
