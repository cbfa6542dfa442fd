use Rattle.book.proofs.Keeping.{kept_offered}
use Rattle.book.proofs.book.Book.offer.Goals as goal

pub invariant_of-self : goal.invariant_of-self
invariant_of-self c =
    let b = c.args.self.now in
    record { kept = simp c.act.ensures (kept_offered _ _ _ _ _ b.stations.all b.kept c.requires.ready c.requires.place) }
