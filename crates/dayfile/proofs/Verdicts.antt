-- What no refusal tells: each of two checks in order passes, and nothing was found.
use Rattle.std.proofs.Common.{◌≡◌, ℕ, Some, None, Option, refl}
use Rattle.refusals.specs.declared.Refusal.{Refusal}
use Rattle.dayfile.specs.declared.refusal.FileRefusal.{FileRefusal}
use Rattle.dayfile.specs.Verdict.{refuse_at, and_then}

pub none_first : (v w : Option FileRefusal) → and_then v w ≡ None → (v ≡ None) × (w ≡ None)
none_first None w e = (refl, e)
none_first (Some x) w e = (cc)

pub none_found : (why : Refusal) (start size : ℕ) (found : Option ℕ) → refuse_at why start size found ≡ None → found ≡ None
none_found why start size None e = refl
none_found why start size (Some i) e = (cc)
