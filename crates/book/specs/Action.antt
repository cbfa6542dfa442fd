-- One station's state under an offer, its settlement or its withdrawal.
use Rattle.std.specs.Prelude.{Bool, cond}
use Rattle.order.specs.declared.kinds.Mark.{Mark}
use Rattle.order.specs.declared.kinds.Mark.TheVariants.{Free, Giving, Taking}
use Rattle.order.specs.Plain.{is_free, gives_to, takes_from}
use Rattle.book.specs.declared.action.Action.{Action}
use Rattle.book.specs.declared.action.Action.TheVariants.{Offer, Settle, Withdraw}
use Rattle.book.specs.declared.action.Side.{Side}
use Rattle.book.specs.declared.action.Side.TheVariants.{To, From}

-- the state of a station at this side of a pending offer
abbrev pub engaged : Side → Mark
engaged (To t) = Giving t
engaged (From g) = Taking g

-- the station is at this side of a pending offer
abbrev pub is_engaged : Mark → Side → Bool
is_engaged x (To t) = gives_to x t
is_engaged x (From g) = takes_from x g

-- the action fits the state: an offer wants a free station, the others one at this side of a pending offer
abbrev pub fits_state : Mark → Action → Side → Bool
fits_state x Offer s = is_free x
fits_state x Settle s = is_engaged x s
fits_state x Withdraw s = is_engaged x s

-- the state that the action leaves, where it fits
abbrev pub after : Action → Side → Mark
after Offer s = engaged s
after Settle s = Free
after Withdraw s = Free

-- the state once the action was tried
abbrev pub acted : Mark → Action → Side → Mark
acted x a s = cond (fits_state x a s) (after a s) x
