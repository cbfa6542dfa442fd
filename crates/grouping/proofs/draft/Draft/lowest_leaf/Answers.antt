use Rattle.std.proofs.Common.{◌≡◌, ◌∙◌, sym, refl, vec_items, eqb, arith, rules}
use borrow.Author.Tests.{tests}
use Rattle.std.specs.List.{find, range_with_len}
use Rattle.std.proofs.lemmas.Iterator.{YieldsList-from_range}
use Rattle.std.proofs.lemmas.Iterator.Adapters.{option_map_id}
use Rattle.std.proofs.lemmas.Iterator.Search.{find_from_yields_List}
use Rattle.regrouping.specs.Table.{degree}
use Rattle.grouping.proofs.Searches.{lone_found}
use Rattle.grouping.proofs.draft.Draft.lowest_leaf.Goals as goal

pub returns : goal.returns
returns c =
    let t = vec_items c.args.self.now.routes in
    let n = c.args.self.now.stations in
    let f : c.find.result ≡ find (λ s. eqb (degree t s) 1) (range_with_len 0 n) =
    sym (option_map_id c.find.result) ∙ find_from_yields_List (λ s. eqb (degree t s) 1) _ _ c.find.result c.find.ensures.ran (YieldsList-from_range 0 n n refl (omega arith)) (λ x b q k. search (rules, tests)) in
    f ∙ sym (lone_found (degree t) n 0)
