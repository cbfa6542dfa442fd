-- Two handovers on the station plan of 4 stations. Assumes nothing.
use Rattle.std.proofs.Common.{◌≡◌, [], ◌∷◌, refl}
use Rattle.plans.specs.Station.{station_meaning}
use Rattle.order.specs.Tally.{tally}
use Rattle.order.specs.Stamps.{present, stamp}
use Rattle.worked.specs.Worked.{counts, two_entries}

pub two_settled : two_entries ≡ (0, 1) ∷ (1, 2) ∷ []
unfolding tally
two_settled = refl

pub first_stamp : counts 4 (stamp (station_meaning 4) two_entries 0) ≡ 1 ∷ 1 ∷ 0 ∷ 0 ∷ []
unfolding tally present
first_stamp = refl

pub second_stamp : counts 4 (stamp (station_meaning 4) two_entries 1) ≡ 1 ∷ 2 ∷ 1 ∷ 0 ∷ []
unfolding tally present
second_stamp = refl
