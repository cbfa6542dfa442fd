use Rattle.std.proofs.Common.{arith}
use Rattle.book.proofs.Keeping.{kept_settled, some_pending}
use Rattle.book.proofs.book.Book.settle.Goals as goal

pub overflow_sub-self : goal.overflow_sub-self
overflow_sub-self c = let b = c.args.self.now in omega (arith, some_pending _ _ _ _ _ b.stations.all b.kept c.requires.ready)

pub push_reserved-requires : goal.push_reserved-requires
push_reserved-requires c =
    let b = c.args.self.now in
    omega (arith, b.kept.room, b.kept.few, some_pending _ _ _ _ _ b.stations.all b.kept c.requires.ready)

pub invariant_of-self : goal.invariant_of-self
invariant_of-self c =
    let b = c.args.self.now in
    let s = c.settle-stamp.ensures in
    let k = kept_settled _ _ _ _ _ b.stations.all b.kept c.requires.ready _ _ c.settle-stamp.result s.joined in
    let p = c.push_reserved.ensures in
    record { kept = simp (p.len, p.capacity, s.list) k }
