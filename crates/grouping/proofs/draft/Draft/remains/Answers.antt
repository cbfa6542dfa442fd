use Rattle.std.proofs.Common.{◌≡◌, vec_items, sym, ap, ◌∙◌, rules}
use Rattle.routes.specs.Tests.{is_some_and}
use Rattle.regrouping.specs.Table.{remaining}
use Rattle.regrouping.proofs.Finds.{remains_from}
use Rattle.grouping.proofs.Drafts.{ascends}
use Rattle.grouping.proofs.draft.Draft.remains.Goals as goal

pub returns : goal.returns
returns c =
    let d = c.args.self.now in
    let r : c.is_some_and.result ≡ is_some_and remaining c.find_route.result = search rules in
    r ∙ (ap (is_some_and remaining) c.find_route.ensures ∙ sym (remains_from (vec_items d.routes) c.args.low c.args.high (ascends d)))
