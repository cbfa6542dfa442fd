-- What a refusal's number tells.
use Rattle.std.proofs.Common.{◌≡◌, Some, ap, arith}
use Rattle.refusals.specs.declared.Refusal.{Refusal}
use Rattle.refusals.specs.Number.{number, refusal_of}

pub number_back : (e : Refusal) → refusal_of (number e) ≡ Some e
number_back e = grind arith

-- no two refusals have one number
pub number_one : (e e' : Refusal) → number e ≡ number e' → e ≡ e'
number_one e e' h = let a = number_back e in let b = number_back e' in let c = ap refusal_of h in cc

-- no refusal has the number 0
pub some_number : (e : Refusal) → number e ≡ 0 → ⊥
some_number e h = grind arith
