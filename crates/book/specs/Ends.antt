-- The two ends of a handover.
use Rattle.plans.specs.Meaning.{Entry}
use Rattle.book.specs.declared.ends.Ends.{Ends}

-- the giver, then the taker
abbrev pub pair : Ends → Entry
pair e = (e.giver, e.taker)
