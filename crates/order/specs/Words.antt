-- The words that a person reads.
use Rattle.std.specs.Prelude.{ℕ, List, codes}
use Rattle.order.specs.declared.kinds.Relation.{Relation}
use Rattle.order.specs.declared.kinds.Relation.TheVariants.{Same, Before, After, Beside}

-- the word for how one handover stands to another
abbrev pub relation_word : Relation → List ℕ
relation_word Same = codes "same"
relation_word Before = codes "before"
relation_word After = codes "after"
relation_word Beside = codes "beside"
