-- One outcome: what meets a call's relation replies the same and leaves a floor that shows the same.
-- So a book that replies or writes anything else does not meet the contract of that call, whatever the law of whole runs says.
use Rattle.std.specs.Prelude.{◌≡◌, ℕ, ◌<◌, List, Option, Result}
use Rattle.refusals.specs.declared.Refusal.{Refusal}
use Rattle.plans.specs.Meaning.{Meaning}
use Rattle.order.specs.declared.kinds.Relation.{Relation}
use Rattle.book.specs.declared.offer.Offer.{Offer}
use Rattle.book.specs.declared.floor.Floor.{Floor}
use Rattle.book.specs.Shown.{shown, settled_in, row_count, present_count}
use Rattle.book.specs.Calls.{Opened, Offered, Settled, HandedOver, Withdrawn, Related, StampRead, LastRead}

-- two floors show the same: their plan, their rows and states, and each count at a dial of the plan
pub record ShowsSame {X : Type 0} (meaning : X → Meaning) (f f' : Floor X) : Type 0 where
  pub plan : f.plan ≡ f'.plan
  pub shows : shown f.book ≡ shown f'.book
  pub rows : (i k : ℕ) → i < settled_in f.book → k < (meaning f.plan).dials → row_count f.book i k ≡ row_count f'.book i k
  pub stations : (s k : ℕ) → k < (meaning f.plan).dials → present_count f.book s k ≡ present_count f'.book s k

-- two outcomes of a call that writes: a reply and a floor each
pub record SameOutcome {X A : Type 0} (meaning : X → Meaning) (r : A) (f : Floor X) (r' : A) (f' : Floor X) : Type 0 where
  pub reply : r ≡ r'
  pub floor : ShowsSame meaning f f'

-- each call has one outcome, on every floor, whatever it is given
pub record OneOutcome {X : Type 0} (meaning : X → Meaning) : Type 0 where
  pub opens : (p : X) (f f' : Floor X) → Opened p f → Opened p f' → ShowsSame meaning f f'
  pub offers : (f f₁ f₂ : Floor X) (g t : ℕ) (r₁ r₂ : Result Offer Refusal)
      → Offered meaning f g t r₁ f₁ → Offered meaning f g t r₂ f₂ → SameOutcome meaning r₁ f₁ r₂ f₂
  pub settles : (f f₁ f₂ : Floor X) (o : Offer) (r₁ r₂ : Result ℕ (Refusal × Offer))
      → Settled meaning f o r₁ f₁ → Settled meaning f o r₂ f₂ → SameOutcome meaning r₁ f₁ r₂ f₂
  pub hands_over : (f f₁ f₂ : Floor X) (g t : ℕ) (r₁ r₂ : Result ℕ Refusal)
      → HandedOver meaning f g t r₁ f₁ → HandedOver meaning f g t r₂ f₂ → SameOutcome meaning r₁ f₁ r₂ f₂
  pub withdraws : (f f₁ f₂ : Floor X) (o : Offer) (r₁ r₂ : Result (Unit {0}) Refusal)
      → Withdrawn meaning f o r₁ f₁ → Withdrawn meaning f o r₂ f₂ → SameOutcome meaning r₁ f₁ r₂ f₂
  pub relates : (f : Floor X) (a b : ℕ) (r₁ r₂ : Result Relation Refusal) → Related meaning f a b r₁ → Related meaning f a b r₂ → r₁ ≡ r₂
  pub stamps : (f : Floor X) (i : ℕ) (before after₁ after₂ : List ℕ) (r₁ r₂ : Result (Unit {0}) Refusal)
      → StampRead meaning f i before r₁ after₁ → StampRead meaning f i before r₂ after₂ → (r₁ ≡ r₂) × (after₁ ≡ after₂)
  pub lasts : (f : Floor X) (s : ℕ) (r₁ r₂ : Result (Option ℕ) Refusal) → LastRead meaning f s r₁ → LastRead meaning f s r₂ → r₁ ≡ r₂
