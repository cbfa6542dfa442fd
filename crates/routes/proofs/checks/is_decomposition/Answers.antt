use Rattle.std.proofs.Common.{◌≡◌}
use Rattle.routes.specs.Groups.{decomposed}
use Rattle.routes.proofs.Decompositions.{placed_test, wholes_test, decomposed_exact}
use Rattle.routes.proofs.checks.is_decomposition.Goals as goal

pub returns-then-is_none : goal.returns-then-is_none
returns-then-is_none c =
    let p = placed_test c.args.routes.now c.args.groups.now c.first_misplaced.result c.is_none.result (cc) (cc) in
    let w = wholes_test c.args.routes.now c.args.groups.now c.first_incomplete.result c.is_none-then-is_none.result (cc) (cc) in
    let e : c.is_none-then-is_none.result ≡ decomposed c.args.routes.now c.args.groups.now = cc in
    record { test = e; exact = decomposed_exact c.args.routes.now c.args.groups.now _ e }

pub returns-else-is_none : goal.returns-else-is_none
returns-else-is_none c =
    let p = placed_test c.args.routes.now c.args.groups.now c.first_misplaced.result c.is_none.result (cc) (cc) in
    let e : c.is_none.result ≡ decomposed c.args.routes.now c.args.groups.now = cc in
    record { test = e; exact = decomposed_exact c.args.routes.now c.args.groups.now _ e }
