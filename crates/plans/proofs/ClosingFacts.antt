-- What a reply keeps where a closing may take it away. Assumes nothing.
use Rattle.std.specs.Prelude.{◌≡◌, ℕ, Bool, true, false, cond, refl}
use Rattle.std.proofs.lemmas.Bool.{false≢true}
use Rattle.plans.specs.Meaning.{is_route, names, Apart}
use Rattle.plans.specs.declared.turns.Turns.{Turns}
use Rattle.plans.specs.declared.turns.Turns.TheVariants.{NoRoute}

struck_names : (s : Bool) (t : Turns) (k : ℕ) → names (cond s NoRoute t) k ≡ true → names t k ≡ true
struck_names true t k h = absurd (false≢true h)
struck_names false t k h = h

struck_apart : (s : Bool) (t : Turns) → Apart t → Apart (cond s NoRoute t)
struck_apart true t h = tt
struck_apart false t h = h

struck_none : (s : Bool) (t : Turns) → is_route t ≡ false → is_route (cond s NoRoute t) ≡ false
struck_none true t h = refl
struck_none false t h = h
