-- What a settlement writes into a book.
use Rattle.std.specs.Prelude.{◌≡◌, ℕ, [], ◌∷◌, ◌++◌, vec_items}
use Rattle.plans.specs.declared.turns.Turns.{Turns}
use Rattle.book.specs.declared.action.Action.TheVariants.{Settle}
use Rattle.book.specs.declared.ends.Ends.{Ends}
use Rattle.book.specs.declared.stamp.Stamp.{Stamp}
use Rattle.book.specs.declared.book.Book.{Book}
use Rattle.book.specs.Counts.{Joined}
use Rattle.book.specs.Stations.{station, done, both_stamped}

-- a handover between these ends, whose route turns these of d dials, is written with a stamp that both stations take
pub record Wrote (d : ℕ) (turns : Turns) (b : Book) (e : Ends) (b' : Book) : Type 0 where
  pub stamp : Stamp
  pub joined : Joined d turns (station b.stations.list e.giver).stamp.counts (station b.stations.list e.taker).stamp.counts stamp.counts
  pub rows : vec_items b'.rows ≡ vec_items b.rows ++ record { ends = e; stamp = stamp } ∷ []
  pub stations : b'.stations.list ≡ both_stamped (done b.stations.list Settle e) e stamp
