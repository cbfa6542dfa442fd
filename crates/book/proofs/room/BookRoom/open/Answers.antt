use Rattle.std.proofs.Common.{length, vec_capacity, sym, ap, ◌∙◌, subst}
use Rattle.book.specs.Stations.{Kept}
use Rattle.book.proofs.Keeping.{kept_new}
use Rattle.book.proofs.room.BookRoom.open.Goals as goal

pub invariant_of-result : goal.invariant_of-result
invariant_of-result c =
    let v = c.args.self.rows in
    record {
      kept =
          subst (λ n. Kept (vec_capacity v) n c.new.result.list 0) (sym (v.ok.0 ∙ ap length c.args.self.empty))
          (subst (λ ss. Kept (vec_capacity v) 0 ss 0) (sym c.new.ensures) (kept_new (vec_capacity v) c.args.self.reserved));
    }
