-- The number of each case that the book answers, together with what the case carries.
use Rattle.std.specs.Prelude.{ℕ, List, [], ◌∷◌, Some, None, Option}
use Rattle.order.specs.declared.kinds.Mark.{Mark}
use Rattle.order.specs.declared.kinds.Mark.TheVariants.{Free, Giving, Taking}
use Rattle.order.specs.declared.kinds.Relation.{Relation}
use Rattle.order.specs.declared.kinds.Relation.TheVariants.{Same, Before, After, Beside}

-- how one handover stands to another; before is happened-before, beside is concurrent
abbrev pub relation_number : Relation → ℕ
relation_number Same = 0
relation_number Before = 1
relation_number After = 2
relation_number Beside = 3

-- what a station is doing, with its partner
abbrev pub mark_number : Mark → ℕ × List ℕ
mark_number Free = (0, [])
mark_number (Giving p) = (1, p ∷ [])
mark_number (Taking p) = (2, p ∷ [])

-- a station's last handover, with its number
abbrev pub last_number : Option ℕ → ℕ × List ℕ
last_number None = (0, [])
last_number (Some k) = (1, k ∷ [])
