-- The plan of a hub: every route meets station 0, so one dial is enough.
use Rattle.std.specs.Prelude.{ℕ, Bool, cond, ◌&&◌, ◌||◌, ◌==◌, nat_lt}
use Rattle.plans.specs.Meaning.{Meaning}
use Rattle.plans.specs.declared.turns.Turns.TheVariants.{NoRoute, One}

-- a spoke of the hub: from station 0 to another below n
abbrev pub spoke : ℕ → ℕ → ℕ → Bool
spoke n a b = a == 0 && (nat_lt 0 b && nat_lt b n)

-- n stations and one dial, which every spoke turns
abbrev pub hub_meaning : ℕ → Meaning
hub_meaning n = record {
  stations = n;
  dials = 1;
  reply = λ a b. cond (spoke n a b || spoke n b a) (One 0) NoRoute;
}
