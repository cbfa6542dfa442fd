-- What a count of a stamp counts.
use Rattle.std.specs.Prelude.{◌≡◌, ℕ, ◌<◌, true, List, length}
use Rattle.std.proofs.Math.Bool.{decide}
use Rattle.plans.specs.Meaning.{Meaning, Lawful, Entry, turns}
use Rattle.order.specs.Tally.{tally}
use Rattle.order.specs.Plain.{entry}
use Rattle.order.specs.Chains.{Upto}
use Rattle.order.specs.Stamps.{stamp}

-- the handover x turns the dial k and is i or before i
abbrev pub Counted : Meaning → List Entry → ℕ → ℕ → ℕ → Type 0
Counted m es k i x = (turns m (entry es x) k ≡ true) × Upto es x i

-- how many numbers below n have the property
abbrev pub how_many : {P : ℕ → Type 0} → ((x : ℕ) → Dec (P x)) → ℕ → ℕ
how_many d n = tally (λ x. decide (d x)) n

-- n is how many handovers turn the dial k and are i or before i: it can be decided which those are, and n counts them however that is decided
pub record IsCount (m : Meaning) (es : List Entry) (k i n : ℕ) : Type 0 where
  pub decided : (x : ℕ) → Dec (Counted m es k i x)
  pub counted : (d : (x : ℕ) → Dec (Counted m es k i x)) → n ≡ how_many d (length es)

-- each count of a stamp is the number of handovers that turn its dial and are this one or before it
abbrev pub CountLaw : Type 0
CountLaw = (m : Meaning) → Lawful m → (es : List Entry) (i k : ℕ) → i < length es → IsCount m es k i (stamp m es i k)
