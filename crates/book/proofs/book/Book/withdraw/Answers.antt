use Rattle.std.proofs.Common.{arith}
use Rattle.book.proofs.Keeping.{kept_freed, some_pending, ready_withdraw}
use Rattle.book.proofs.book.Book.withdraw.Goals as goal

pub overflow_sub-self : goal.overflow_sub-self
overflow_sub-self c = let b = c.args.self.now in omega (arith, some_pending _ _ _ _ _ b.stations.all b.kept (ready_withdraw _ _ c.requires))

pub invariant_of-self : goal.invariant_of-self
invariant_of-self c =
    let b = c.args.self.now in
    record { kept = simp c.act.ensures (kept_freed _ _ _ _ _ b.stations.all b.kept (ready_withdraw _ _ c.requires)) }
