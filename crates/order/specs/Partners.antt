-- The partners that each station met, and what depends on them alone.
use Rattle.std.specs.Prelude.{◌≡◌, ℕ, ◌<◌, true, cond, List, [], ◌∷◌, length, ◌==◌}
use Rattle.plans.specs.Meaning.{Meaning, Lawful, Entry, has}
use Rattle.order.specs.Tally.{tally}
use Rattle.order.specs.Plain.{entry}
use Rattle.order.specs.Stamps.{stamp}

-- the other end of a handover that s has part in
abbrev pub other : Entry → ℕ → ℕ
other e s = cond (e.0 == s) e.1 e.0

-- the partners of the station s, in the order of its handovers, whoever gave
unfoldable pub partners : List Entry → ℕ → List ℕ
partners [] s = []
partners (e ∷ es) s = cond (has s e) (other e s ∷ partners es s) (partners es s)

-- each station met the same partners in the same order
abbrev pub MetAlike : List Entry → List Entry → Type 0
MetAlike es es' = (s : ℕ) → partners es s ≡ partners es' s

-- i is the number of the station's j-th handover, counted from 0
pub record Jth (es : List Entry) (s j i : ℕ) : Type 0 where
  pub settled : i < length es
  pub of_it : has s (entry es i) ≡ true
  pub earlier : tally (λ x. has s (entry es x)) i ≡ j

-- two plans reply alike: same stations, same dials, same reply for every pair
pub record Alike (m m' : Meaning) : Type 0 where
  pub stations : m.stations ≡ m'.stations
  pub dials : m.dials ≡ m'.dials
  pub reply : (a b : ℕ) → m.reply a b ≡ m'.reply a b

-- stamps depend on the stations' partners alone
abbrev pub PartnerLaw : Type 0
PartnerLaw =
    (m m' : Meaning) → Lawful m → Lawful m' → Alike m m' → (es es' : List Entry) → MetAlike es es'
    → (s j i i' k : ℕ) → Jth es s j i → Jth es' s j i' → stamp m es i k ≡ stamp m' es' i' k
