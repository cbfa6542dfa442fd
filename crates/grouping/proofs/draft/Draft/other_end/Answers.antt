use Rattle.std.proofs.Common.{◌≡◌, vec_items, ◌∙◌, rules}
use borrow.Author.Tests.{tests}
use Rattle.std.specs.List.{find}
use Rattle.std.specs.Option.{option_map}
use Rattle.std.proofs.lemmas.Iterator.{YieldsList-from_slice}
use Rattle.std.proofs.lemmas.Iterator.Search.{find_from_yields_List}
use Rattle.regrouping.specs.Table.{on}
use Rattle.grouping.proofs.Searches.{across, mate_told}
use Rattle.grouping.proofs.draft.Draft.other_end.Goals as goal

pub returns : goal.returns
returns c =
    let t = vec_items c.args.self.now.routes in
    let s = c.args.s in
    let f : option_map (λ y. y.now) c.find.result ≡ find (on s) t =
    find_from_yields_List (on s) _ _ c.find.result c.find.ensures.ran (YieldsList-from_slice t (c.iter.ensures.rest ∙ c.deref.ensures.value)) (λ x b q k. search (rules, tests)) in
    let m : c.map.result ≡ option_map (λ y. across s y.now) c.find.result = search (rules, tests) in
    mate_told t s c.map.result c.find.result f m
