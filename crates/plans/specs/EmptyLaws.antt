-- The empty plan obeys the laws. Assumes nothing.
use Rattle.std.proofs.Common.{arith}
use Rattle.plans.specs.Meaning.{Lawful, empty_meaning}

pub empty_lawful : Lawful empty_meaning
empty_lawful = grind arith
