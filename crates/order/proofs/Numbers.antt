-- The numbers of the cases tell them apart. Assumes nothing.
use Rattle.std.proofs.Common.{◌≡◌, ℕ, ◌↔◌, List, Option, ap, subst, arith}
use Rattle.plans.specs.Meaning.{Entry}
use Rattle.order.specs.declared.kinds.Relation.{Relation}
use Rattle.order.specs.Numbers.{relation_number, last_number}
use Rattle.order.specs.Chains.{Stands}
use Rattle.order.proofs.Chains.{one_relation}

pub relation_one : (r r' : Relation) → relation_number r ≡ relation_number r' → r ≡ r'
relation_one r r' h = grind arith

pub last_one : (o o' : Option ℕ) → last_number o ≡ last_number o' → o ≡ o'
last_one o o' h = grind arith

-- where the handovers stand as r, another relation has r's number exactly where they stand so
pub stands_exactly : (es : List Entry) (a b : ℕ) (r : Relation) → Stands es a b r → (r' : Relation) → (relation_number r ≡ relation_number r') ↔ Stands es a b r'
stands_exactly es a b r s r' = (λ e. subst (Stands es a b) (relation_one r r' e) s, λ s'. ap relation_number (one_relation es a b r r' s s'))
