-- A closing of a lawful plan obeys the laws. Assumes nothing.
use Rattle.std.specs.Prelude.{Bool, List}
use Rattle.std.proofs.Common.{arith}
use Rattle.std.proofs.lemmas.Bool.Decides.{nat_tests}
use Rattle.plans.specs.Meaning.{Meaning, Lawful}
use Rattle.plans.specs.Closing.{closing_meaning}

pub closing_lawful : (m : Meaning) (closed : List Bool) → Lawful m → Lawful (closing_meaning m closed)
closing_lawful m closed l = grind (arith, nat_tests)
