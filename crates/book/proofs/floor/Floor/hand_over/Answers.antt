use Rattle.std.proofs.Common.{rules}
use Rattle.book.proofs.Calling.{offer_pends, handed_run}
use Rattle.book.proofs.floor.Floor.hand_over.Goals as goal

pub write-requires : goal.write-requires
write-requires g c = offer_pends g.P.Plan.meaning _ _ _ _ _ _ c.offer.ensures.call (search rules)

pub returns-clause-run : goal.returns-clause-run
returns-clause-run g c = handed_run g.P.Plan.meaning _ _ _ _ _ _ c.offer.ensures.call (search rules) _ _ c.offer.ensures.run c.write.ensures
